-- `contours::march::march_row` meets its contract. The invariant: the m first are the segments so far. Assumes nothing.
use Rattle.std.proofs.Common.{sym, refl, ap, ◌∙◌, arith}
use Rattle.loops.proofs.LoopLaws.{loop-none, loop-end, loop_split}
use Rattle.contours.specs.March.{march_row}
use Rattle.contours.specs.Quiet.{march_run}
use Rattle.contours.proofs.march.march_row.Goals as goal

pub loop-a-init : goal.loop-a-init
loop-a-init c = (loop-none _ _ _, omega arith, omega arith, refl)

pub loop-a-preserved : goal.loop-a-preserved
loop-a-preserved c = let v = c.loop-a.invariant in
    let r = c.march_run-m.ensures in
    let e = c.run_end-e.ensures in
    (r.is ∙ ap (march_run _ _ _ _ _ _) v.0 ∙ sym (loop_split _ 0 _ _ _ (omega arith) (omega (arith, e.0))), e.1, omega (arith, r.few, v.2, e.0), r.long ∙ v.3)

pub returns : goal.returns
unfolding march_row
returns c = let v = c.loop-a.invariant in
    let d = c.loop-a-test.false in
    record { is = v.0 ∙ loop-end _ 0 _ _ _ (omega arith) d (omega (arith, v.1)); few = omega (arith, v.1, v.2); long = v.3 }
