-- `tracing::nudge::look_round` meets its contract. Assumes nothing.
use Rattle.loops.specs.Loop.{on, turn}
use Rattle.loops.proofs.LoopLaws.{Going}
use Rattle.setup.specs.Place.{allowed_at}
use Rattle.tracing.specs.Ring.{look_at}
use Rattle.std.specs.Prelude.{None}
use Rattle.tracing.proofs.nudge.look_round.Given as goal

abbrev pub invariant-loop-k : goal.invariant-loop-k
invariant-loop-k l = Going (turn (look_at (allowed_at l.s l.wall l.vs l.lens) l.s.grid.cell l.q l.r)) 0 16 (on None) (on None) l.k
