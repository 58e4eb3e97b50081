-- `start::reach::mark_near` meets its contract. Assumes nothing.
use Rattle.loops.proofs.LoopLaws.{Going}
use Rattle.setup.specs.Layout.{run}
use Rattle.start.specs.Steps.{near_at}
use Rattle.start.proofs.WriteLaws.{write_from}
use Rattle.start.proofs.reach.mark_near.Given as goal

abbrev pub invariant-loop-k : goal.invariant-loop-k
invariant-loop-k l = Going (write_from l.a (near_at l.l.threshold (run 0 l.n l.initial.b) l.squares)) 0 l.n l.initial.b l.b l.k
