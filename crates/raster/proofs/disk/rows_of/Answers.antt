-- `raster::disk::rows_of` meets its contract. Assumes nothing.
use Rattle.raster.proofs.DiskLaws.{rows_are}
use Rattle.raster.proofs.disk.rows_of.Goals as goal

pub returns : goal.returns
returns c = rows_are _ _ _ _ _ _ _ _ _ c.place.ensures c.first_from-j0.ensures c.place-2.ensures c.floor-j1.ensures
    c.sat_u64.ensures c.last_row.ensures
