-- `contours::march::march_squares` meets its contract. The invariant: the m first are the segments so far. Assumes nothing.
use Rattle.std.proofs.Common.{refl, ◌∙◌, arith}
use Rattle.loops.proofs.LoopLaws.{going_none, going_more, going_end}
use Rattle.contours.proofs.march.march_squares.Goals as goal

pub loop-i-init : goal.loop-i-init
loop-i-init c = (going_none _ _ _ _, omega arith, refl)

pub loop-i-preserved : goal.loop-i-preserved
loop-i-preserved c = let l = c.loop-i in
    let e = c.march_square-m.ensures in
    (going_more _ _ _ _ _ _ _ l.invariant.0 c.loop-i-test.true e.is, omega (arith, e.few, l.invariant.1), e.long ∙ l.invariant.2)
