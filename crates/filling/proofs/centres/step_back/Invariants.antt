-- `filling::centres::step_back` meets its contract. The invariant: column k, if there is one, is not left of x. Assumes nothing.
use Rattle.filling.specs.Columns.{Past}
use Rattle.filling.proofs.centres.step_back.Given as goal

abbrev pub invariant-loop-k : goal.invariant-loop-k
invariant-loop-k l = Past l.xs l.x l.k
