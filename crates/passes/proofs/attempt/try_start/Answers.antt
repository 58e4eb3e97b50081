-- `passes::attempt::try_start` meets its contract. Assumes nothing.
use mathlib.Core.Path.{refl, sym, ◌∙◌}
use Rattle.loops.specs.Regions.{within}
use Rattle.passes.proofs.PieceLaws.{start-walls, start-rim, start-point, start-tried, start_none, start_lays, start_spread, start-laid, start_is}
use Rattle.passes.proofs.attempt.try_start.Goals as goal

pub lay_guide-requires : goal.lay_guide-requires
lay_guide-requires c =
    let r = start_lays _ _ _ _ _ c.requires.fitted _ _ _ _ c.requires.ahead c.requires.le_n _ _ c.cells-cells.ensures c.guide-at.ensures in
    record { walls = r.0; over = r.1.0; ahead = r.1.1.0; cells_le_at = r.1.1.1.0; le_n = r.1.1.1.1 }

pub try_guide-requires : goal.try_guide-requires
unfolding within
try_guide-requires c = let S = start_spread _ _ _ _ _ c.requires.fitted _ _ _ _ c.requires.ahead c.requires.le_n _ _ c.cells-cells.ensures c.guide-at.ensures _ c.rim-rim.ensures in let l = c.lay_guide.ensures.w_after in record { walls = start-walls _ _ _ _ _ _ _ _ _ _ _ S _ _ l; tables = start-rim _ _ _ _ _ _ _ _ _ _ _ S _ _ l; usable = record { over = c.requires.fitted.over; ready = c.requires.ready; point = start-point _ _ _ _ _ _ _ _ _ _ _ S _ _ l } }

pub returns-then-lay_guide : goal.returns-then-lay_guide
unfolding within
returns-then-lay_guide c = let S = start_spread _ _ _ _ _ c.requires.fitted _ _ _ _ c.requires.ahead c.requires.le_n _ _ c.cells-cells.ensures c.guide-at.ensures _ c.rim-rim.ensures in record { map_unchanged = c.try_guide.ensures.map_unchanged; w_after = start-laid _ _ _ _ _ c.requires.fitted _ _ _ _ c.requires.ahead c.requires.le_n _ _ c.cells-cells.ensures c.guide-at.ensures _ c.lay_guide.ensures.w_after; result_after = start_is _ _ _ _ _ c.requires.fitted _ _ _ _ c.requires.ahead c.requires.le_n _ _ c.cells-cells.ensures c.guide-at.ensures _ _ _ _ (start-tried _ _ _ _ _ _ _ _ _ _ _ S _ _ c.lay_guide.ensures.w_after _ _ _ (sym c.if-lay_guide.true ∙ c.lay_guide.ensures.value) _ c.try_guide.ensures.result_after) }

pub returns : goal.returns
returns c = record { map_unchanged = refl; w_after = start-laid _ _ _ _ _ c.requires.fitted _ _ _ _ c.requires.ahead c.requires.le_n _ _ c.cells-cells.ensures c.guide-at.ensures _ c.lay_guide.ensures.w_after; result_after = start_is _ _ _ _ _ c.requires.fitted _ _ _ _ c.requires.ahead c.requires.le_n _ _ c.cells-cells.ensures c.guide-at.ensures _ _ _ _ (start_none _ _ _ _ _ _ _ _ _ _ _ (start_spread _ _ _ _ _ c.requires.fitted _ _ _ _ c.requires.ahead c.requires.le_n _ _ c.cells-cells.ensures c.guide-at.ensures _ refl) _ _ _ _ (sym c.if-lay_guide.false ∙ c.lay_guide.ensures.value)) }
