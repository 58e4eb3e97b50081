-- `smoothing::smooth::average` meets its contract. Assumes nothing.
use mathlib.Core.Path.{◌≡◌, ap, ◌∙◌}
use native.Mathlib.Omega.{arith}
use lib.ListN.{length}
use Rattle.loops.proofs.LoopLaws.{going_none, going_more, going_end}
use Rattle.smoothing.specs.Smooth.{Averaging}
use Rattle.smoothing.proofs.SmoothLaws.{average_run, average_is}
use Rattle.smoothing.proofs.smooth.average.Goals as goal
use Rattle.smoothing.proofs.smooth.average.Goals.{At-loop-k}

pub loop-k-init : goal.loop-k-init
loop-k-init c = going_none _ _ _ _

pub loop-k-preserved : goal.loop-k-preserved
loop-k-preserved c = going_more _ _ _ _ _ _ _ c.loop-k.invariant c.loop-k-test.true c.average_at-prev.ensures

pub returns : goal.returns
returns c = average_is _ _ _ c.requires.n_in_bounds _ _ c.vertex-first.ensures c.vertex-prev.ensures _ (going_end _ _ _ _ _ _ c.loop-k.invariant c.loop-k-test.false)
