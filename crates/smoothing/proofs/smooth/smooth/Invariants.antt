-- `smoothing::smooth::smooth` meets its contract. Assumes nothing.
use mathlib.Core.Path.{◌≡◌}
use lib.ListN.{length}
use Rattle.loops.proofs.LoopLaws.{Going}
use Rattle.geom.specs.Points.{points}
use Rattle.smoothing.specs.Smooth.{averaged}
use Rattle.smoothing.proofs.smooth.smooth.Given as goal

abbrev pub invariant-loop-t : goal.invariant-loop-t
invariant-loop-t l = Going (λ i q. averaged l.closed q) 0 3 (points 0 l.n l.initial.pts) (points 0 l.n l.pts) l.t × (length l.pts ≡ length l.initial.pts)
