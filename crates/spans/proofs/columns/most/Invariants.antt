-- `spans::columns::most` meets its contract. The invariant: the bounds are those of the columns so far. Assumes nothing.
use Rattle.spans.specs.Ends.{Most}
use Rattle.spans.proofs.columns.most.Given as goal

abbrev pub invariant-loop-i : goal.invariant-loop-i
invariant-loop-i l = Most l.g l.s l.h l.i l.b
