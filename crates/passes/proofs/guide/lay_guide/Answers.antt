-- `passes::guide::lay_guide` meets its contract. Assumes nothing.
use Rattle.passes.proofs.LayLaws.{lay_walls, lay_low, lay_high, lay_is}
use Rattle.passes.proofs.guide.lay_guide.Goals as goal

pub blend_in-requires : goal.blend_in-requires
blend_in-requires c = record { walls = lay_walls _ _ _ _ _ _ _ c.requires.ahead c.requires.cells_le_at _ c.walk.ensures _ _ _ c.requires.walls; over = c.requires.over; cells_in_bounds = lay_low _ _ _ _ _ _ _ c.requires.ahead c.requires.cells_le_at _ c.walk.ensures; m_in_bounds = lay_high _ _ _ _ _ _ _ c.requires.ahead c.requires.cells_le_at _ c.walk.ensures; le_m = c.requires.le_n }

pub returns : goal.returns
returns c =
    let r = lay_is _ _ _ _ _ _ _ c.requires.ahead c.requires.cells_le_at _ c.walk.ensures _ _ _ _ _ _ c.blend_in.ensures.value c.blend_in.ensures.w_after in
    record { value = r.0; w_after = r.1 }
