-- `raster::grid::new` meets its contract. Assumes nothing.
use mathlib.Core.Path.{sym, ◌∙◌}
use Rattle.raster.specs.Grid.{new_grid}
use Rattle.raster.proofs.grid.new.Goals as goal

pub returns-then-is_fit : goal.returns-then-is_fit
unfolding new_grid
returns-then-is_fit c = rw (sym c.is_fit.ensures ∙ c.if-is_fit.true) c.sized.ensures

pub returns : goal.returns
unfolding new_grid
returns c = rw (sym c.is_fit.ensures ∙ c.if-is_fit.false)
