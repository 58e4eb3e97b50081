-- `raster::grid::cell_of` meets its contract. Assumes nothing.
use mathlib.Core.Path.{refl}
use native.Mathlib.Omega.{arith}
use Rattle.raster.proofs.GridLaws.{low_index, high_index, none-column, none_row, past-column, past_row, found_at}
use Rattle.raster.proofs.grid.cell_of.Goals as goal

pub returns-then-j-g : goal.returns-then-j-g
returns-then-j-g c = let s = c.requires in
    let h = c.if-i-g.true in
    let k = c.if-j-g.true in
    found_at _ _ (omega (arith, s.nx_bound)) (omega (arith, s.ny_bound)) c.if-fx.true c.if-fy.true _ _
    (low_index _ _ _ s.nx_bound c.sat_u32-i.ensures h) h (low_index _ _ _ s.ny_bound c.sat_u32-j.ensures k) k

pub returns-else-j-g : goal.returns-else-j-g
returns-else-j-g c = let s = c.requires in
    let h = c.if-i-g.true in
    past_row _ _ _ _ (low_index _ _ _ s.nx_bound c.sat_u32-i.ensures h) h refl (high_index _ _ _ c.sat_u32-j.ensures c.if-j-g.false)

pub returns-else-i-g : goal.returns-else-i-g
returns-else-i-g c = past-column _ _ _ refl (high_index _ _ _ c.sat_u32-i.ensures c.if-i-g.false)

pub returns-else-fy : goal.returns-else-fy
returns-else-fy c = none_row _ _ c.if-fy.false

pub returns-else-fx : goal.returns-else-fx
returns-else-fx c = none-column _ _ c.if-fx.false
