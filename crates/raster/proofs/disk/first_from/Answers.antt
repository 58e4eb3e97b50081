-- `raster::disk::first_from` meets its contract. Assumes nothing.
use Rattle.raster.proofs.DiskLaws.{first-is}
use Rattle.raster.proofs.disk.first_from.Goals as goal

pub returns : goal.returns
returns c = first-is _ _ _ c.ceil.ensures c.max.ensures
