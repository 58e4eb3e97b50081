-- `raster::grid::is_fit` meets its contract. Assumes nothing.
use Rattle.raster.specs.Grid.{fit_of}
use Rattle.raster.proofs.grid.is_fit.Goals as goal

pub returns : goal.returns
unfolding fit_of
returns c = rw (← c.is_finite.ensures, ← c.spans.ensures, ← c.spans-2.ensures)
