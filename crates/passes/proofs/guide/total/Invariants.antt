-- `passes::guide::total` meets its contract. Assumes nothing.
use Rattle.loops.proofs.LoopLaws.{Going}
use Rattle.geom.specs.Vec.{f0}
use Rattle.geom.specs.Points.{points}
use Rattle.passes.specs.Guide.{add_leg}
use Rattle.passes.proofs.guide.total.Given as goal

abbrev pub invariant-loop-k : goal.invariant-loop-k
invariant-loop-k l = Going (add_leg (points 0 l.n l.guide)) 1 l.n f0 l.t l.k
