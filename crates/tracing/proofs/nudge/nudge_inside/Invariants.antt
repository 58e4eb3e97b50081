-- `tracing::nudge::nudge_inside` meets its contract. Assumes nothing.
use Rattle.loops.specs.Loop.{on, turn}
use Rattle.loops.proofs.LoopLaws.{Going}
use Rattle.setup.specs.Place.{allowed_at}
use Rattle.tracing.specs.Ring.{look_farther}
use Rattle.tracing.proofs.nudge.nudge_inside.Given as goal

abbrev pub invariant-loop-r : goal.invariant-loop-r
invariant-loop-r l = Going (turn (look_farther (allowed_at l.s l.wall l.vs l.lens) l.s.grid.cell l.q)) 1 9 (on l.q) (on l.q) l.r
