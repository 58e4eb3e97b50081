-- `raster::log::clear_row` meets its contract. Assumes nothing.
use mathlib.Core.Path.{refl, sym, subst}
use native.Mathlib.Omega.{arith}
use Rattle.loops.proofs.CellLaws.{row_below}
use Rattle.raster.proofs.RowLaws.{BothIn, chord_in, less_in, in_map}
use Rattle.raster.proofs.SweepLaws.{crescent-row-is}
use Rattle.raster.proofs.LogLaws.{ready-kept, span_kept, le_same}
use Rattle.raster.proofs.log.clear_row.Goals as goal
use Rattle.raster.proofs.log.clear_row.Goals.{After-crescent_row-row}

both : (c : After-crescent_row-row) → BothIn c.args.g.nx c.crescent_row-row.result
both c = subst (BothIn c.args.g.nx) (sym c.crescent_row-row.ensures) (less_in _ _ _ (chord_in _ _ _ _ c.requires.over.sides))

pub clear_columns-requires : goal.clear_columns-requires
clear_columns-requires c =
    let p = c.requires in
    let g = c.args.g in
    let b = both (goal.at.clear_columns-requires c).After-crescent_row-row in record { left = in_map _ g.ny g.nx _ _ refl p.y_lt_ny p.over.long c.crescent_row-row.result.left b.0; right = in_map _ g.ny g.nx _ _ refl p.y_lt_ny p.over.long c.crescent_row-row.result.right b.1; ready = p.ready }

pub returns : goal.returns
returns c = crescent-row-is _ _ _ _ c.args.r _ _ _ _ _ _ refl c.crescent_row-row.ensures refl c.clear_columns.ensures
