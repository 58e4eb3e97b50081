-- `raster::disk::row_y` meets its contract. Assumes nothing.
use Rattle.raster.specs.Disk.{row_y}
use Rattle.raster.proofs.disk.row_y.Goals as goal

pub returns : goal.returns
unfolding row_y
returns c = cc
