-- `passes::guide::choose` meets its contract. The invariant: no way out before k serves. Assumes nothing.
use Prim.Native.Nat.{◌/◌}
use lib.ListN.{length}
use Rattle.loops.specs.Loop.{on, turn}
use Rattle.loops.proofs.LoopLaws.{Going}
use Rattle.geom.specs.Points.{points}
use Rattle.setup.specs.Place.{allowed_at, free_at}
use Rattle.passes.specs.Guide.{attempt}
use Rattle.passes.proofs.guide.choose.Given as goal

abbrev pub invariant-loop-k : goal.invariant-loop-k
invariant-loop-k l = Going (turn (attempt l.s (allowed_at l.s l.wall l.vs l.lens) (free_at l.s l.map) (points 0 (length l.guide / 2) l.guide) l.len)) 0 3 (on tt) (on tt) l.k
