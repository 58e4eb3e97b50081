-- `raster::grid::center` meets its contract. Assumes nothing.
use Rattle.raster.specs.Grid.{center_of}
use Rattle.raster.proofs.grid.center.Goals as goal

pub returns : goal.returns
unfolding center_of
returns c = rw (← c.float_of.ensures, ← c.float_of-2.ensures) c.add.ensures
