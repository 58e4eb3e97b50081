-- `filling::centres::skip_left` meets its contract. The invariant: the columns so far are left of x. Assumes nothing.
use Rattle.filling.specs.Columns.{Skipped}
use Rattle.filling.proofs.centres.skip_left.Given as goal

abbrev pub invariant-loop-k : goal.invariant-loop-k
invariant-loop-k l = Skipped l.xs l.x l.from l.k
