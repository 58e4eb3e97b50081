-- `passes::start::nearest` meets its contract. Assumes nothing.
use Rattle.passes.proofs.StartLaws.{Nearest}
use Rattle.passes.proofs.start.nearest.Given as goal

abbrev pub invariant-loop-k : goal.invariant-loop-k
invariant-loop-k l = Nearest l.piece l.n l.p l.best l.k
