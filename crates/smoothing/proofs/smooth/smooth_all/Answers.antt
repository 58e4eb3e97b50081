-- `smoothing::smooth::smooth_all` meets its contract. Assumes nothing.
use native.Mathlib.Omega.{arith}
use Rattle.smoothing.proofs.AllLaws.{smoothed-none, smoothed_more, smoothed-end}
use Rattle.smoothing.proofs.smooth.smooth_all.Goals as goal

pub loop-k-init : goal.loop-k-init
loop-k-init c = smoothed-none _ _ _ _ c.requires

pub loop-k-preserved : goal.loop-k-preserved
loop-k-preserved c = let l = c.loop-k in
    let s = c.smooth_row.ensures in
    smoothed_more _ _ _ _ l.k l.rows l.pts _ _ _ c.loop-k-test.true l.invariant s.rows_after (rw c.of-bound.ensures.r at s.smoothed_row)
