-- `spans::columns::fewest` meets its contract. The invariant: the bounds are those of the columns so far. Assumes nothing.
use Rattle.spans.specs.Ends.{Least}
use Rattle.spans.proofs.columns.fewest.Given as goal

abbrev pub invariant-loop-i : goal.invariant-loop-i
invariant-loop-i l = Least l.g l.s l.h l.i l.b
