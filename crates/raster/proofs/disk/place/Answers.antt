-- `raster::disk::place` meets its contract. Assumes nothing.
use mathlib.Core.Path.{refl}
use Rattle.raster.specs.Disk.{cell_at}
use Rattle.raster.proofs.disk.place.Goals as goal

pub returns : goal.returns
unfolding cell_at
returns c = refl
