-- `raster::grid::spans` meets its contract. Assumes nothing.
use Rattle.raster.specs.Grid.{spans_of}
use Rattle.raster.proofs.grid.spans.Goals as goal

pub returns : goal.returns
unfolding spans_of
returns c = rw (← c.is_finite.ensures, ← c.is_finite-2.ensures)
