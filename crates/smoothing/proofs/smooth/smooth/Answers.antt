-- `smoothing::smooth::smooth` meets its contract. Assumes nothing.
use mathlib.Core.Path.{refl, ◌∙◌}
use native.Mathlib.Omega.{arith}
use Rattle.loops.proofs.LoopLaws.{going_none, going_more, going_end}
use Rattle.smoothing.proofs.SmoothLaws.{smooth_few, smooth_is}
use Rattle.smoothing.proofs.smooth.smooth.Goals as goal

pub returns-then-n-lt3 : goal.returns-then-n-lt3
returns-then-n-lt3 c = smooth_few _ _ _ _ c.if-n-lt3.true

pub loop-t-init : goal.loop-t-init
loop-t-init c = (going_none _ _ _ _, refl)

pub loop-t-preserved : goal.loop-t-preserved
loop-t-preserved c = let l = c.loop-t in
    let a = c.average.ensures in
    (going_more _ _ _ _ _ _ _ l.invariant.0 c.loop-t-test.true a.is, a.long ∙ l.invariant.1)

pub returns : goal.returns
returns c = let i = c.loop-t.invariant in
    smooth_is _ _ _ _ _ _ _ c.if-n-lt3.false (going_end _ _ _ _ _ _ i.0 c.loop-t-test.false) i.1 c.resample.ensures
