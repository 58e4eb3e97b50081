-- `raster::grid::cell_no` meets its contract. Assumes nothing.
use mathlib.Core.Path.{refl}
use native.Mathlib.Omega.{arith}
use Rattle.raster.specs.Grid.{numbered}
use Rattle.raster.proofs.GridLaws.{number-below}
use Rattle.raster.proofs.grid.cell_no.Goals as goal

pub returns : goal.returns
unfolding numbered
returns c = refl
