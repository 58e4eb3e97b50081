-- `contours::edge::crossing` meets its contract. Assumes nothing.
use Rattle.std.proofs.Common.{◌∙◌}
use Rattle.contours.proofs.EdgeLaws.{cell-within, few-columns, crossing_is}
use Rattle.contours.proofs.edge.crossing.Goals as goal

pub bounds-f-index_of : goal.bounds-f-index_of
bounds-f-index_of c = cell-within _ _ _ c.requires.over c.requires.between _ c.lower_cell-c.ensures _ c.index_of.ensures

pub returns : goal.returns
returns c = crossing_is _ _ _ _ _ _ _ _ _ _ _ _ _ _ _ _ c.lower_cell-c.ensures c.column_of-i.ensures c.row_of-j.ensures c.index_of.ensures c.f32_to_f64_with_nan-fa.ensures (c.index_of-2.ensures ∙ c.far_cell.ensures) c.f32_to_f64_with_nan-fb.ensures c.f32_to_f64_with_nan.ensures c.along-t.ensures c.center.ensures c.far_center.ensures c.lerp.ensures
