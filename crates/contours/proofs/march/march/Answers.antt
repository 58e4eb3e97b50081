-- `contours::march::march` meets its contract. The invariant: the n first are the segments of the rows so far. Assumes nothing.
use Rattle.std.proofs.Common.{◌+◌, ◌*◌, ◌≤◌, refl, ◌∙◌, le_refl, mul-le-mul_right, add-mul, arith}
use Rattle.loops.proofs.CellLaws.{row_below}
use Rattle.loops.proofs.LoopLaws.{going_none, going_more, going_end}
use Rattle.contours.specs.March.{segments_of, march}
use Rattle.contours.proofs.march.march.Goals as goal

pub loop-j-init : goal.loop-j-init
unfolding segments_of
loop-j-init c = (going_none _ _ _ _, omega arith, refl)

pub loop-j-preserved : goal.loop-j-preserved
loop-j-preserved c = let l = c.loop-j in
    let e = c.march_row-n.ensures in
    let g = c.args.g in
    (going_more _ _ _ _ _ _ _ l.invariant.0 c.loop-j-test.true e.is, omega (arith, e.few, l.invariant.1, add-mul l.j 1 g.nx), e.long ∙ l.invariant.2)

pub returns : goal.returns
unfolding march
returns c = let v = c.loop-j.invariant in
    let g = c.args.g in
    record {
      is = going_end _ _ _ _ _ _ v.0 c.loop-j-test.false;
      few = omega (arith, v.1, mul-le-mul_right g.nx (let z : c.loop-j.j ≤ g.ny = omega (arith, v.0.high) in z));
      long = v.2;
    }
