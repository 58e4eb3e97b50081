-- `filling::region::fill_rows` meets its contract. The invariant: the map is what the rows so far leave, and no byte of the scratch is 1. Assumes nothing.
use mathlib.Core.Path.{◌≡◌, refl, sym, ap, ◌∙◌}
use native.Mathlib.Omega.{arith}
use lib.ListN.{length}
use Rattle.loops.proofs.LoopLaws.{going_none, going_more, going_end}
use Rattle.filling.specs.Fill.{fill_region}
use Rattle.filling.proofs.FillLaws.{rows_long}
use Rattle.filling.proofs.RowLaws.{blank-zeros}
use Rattle.filling.proofs.region.fill_rows.Goals as goal
use Rattle.filling.proofs.region.fill_rows.Goals.{At-loop-j}

pub loop-j-init : goal.loop-j-init
loop-j-init c = let h = c.requires.over.sides.columns in (going_none _ _ _ _, blank-zeros _ 4096 h, blank-zeros _ 4096 h, refl, refl)

pub loop-j-preserved : goal.loop-j-preserved
loop-j-preserved c = let l = c.loop-j in
    let f = c.fill_row in
    (going_more _ _ _ _ _ _ _ l.invariant.0 c.loop-j-test.true f.ensures.0, f.ensures.1.0, f.ensures.1.1, f.auto.row ∙ l.invariant.3, f.auto.cover ∙ l.invariant.4)

pub returns : goal.returns
unfolding fill_region
returns c = going_end _ _ _ _ _ _ c.loop-j.invariant.0 c.loop-j-test.false
