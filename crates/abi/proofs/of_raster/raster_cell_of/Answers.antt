-- `abi::of_raster::raster_cell_of` meets its contract. Assumes nothing.
use mathlib.Core.Path.{sym, ap, ◌∙◌}
use native.Mathlib.Omega.{arith}
use Rattle.raster.proofs.GridLaws.{on-grid-at}
use Rattle.abi.specs.Raster.{packed_cell}
use Rattle.abi.proofs.of_raster.raster_cell_of.Goals as goal

pub pack-requires : goal.pack-requires
pack-requires c = let w = on-grid-at _ _ _ _ _ c.cell_of-f.ensures c.in-Some.is in record { i_bound = omega (arith, w.0, c.requires.nx_bound); j_bound = omega (arith, w.1, c.requires.ny_bound) }

pub returns-in-None : goal.returns-in-None
unfolding packed_cell
returns-in-None c = ap packed_cell (sym c.in-None.is ∙ c.cell_of-f.ensures)

pub returns-in-Some : goal.returns-in-Some
unfolding packed_cell
returns-in-Some c = c.pack.ensures ∙ ap packed_cell (sym c.in-Some.is ∙ c.cell_of-f.ensures)
