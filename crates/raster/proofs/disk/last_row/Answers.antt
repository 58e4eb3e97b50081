-- `raster::disk::last_row` meets its contract. Assumes nothing.
use Rattle.raster.proofs.DiskLaws.{last-is}
use Rattle.raster.specs.Disk.{last_row}
use Rattle.raster.proofs.disk.last_row.Goals as goal

pub returns-then-j1 : goal.returns-then-j1
unfolding last_row
returns-then-j1 c = rw c.if-j1.true

pub returns : goal.returns
returns c = last-is _ _ _ _ c.if-j1.false c.sat_u64.ensures c.at_most_last.ensures
