-- `raster::grid::reach` meets its contract. Assumes nothing.
use mathlib.Core.Path.{ap, ◌∙◌}
use lib.Ieee.{to_unsigned}
use Rattle.raster.specs.Grid.{reach_of}
use Rattle.raster.proofs.grid.reach.Goals as goal

pub returns : goal.returns
unfolding reach_of
returns c = c.sat_u64.ensures ∙ ap (to_unsigned 64) c.ceil.ensures
