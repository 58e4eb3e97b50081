-- `raster::grid::at` meets its contract. Assumes nothing.
use mathlib.Core.Path.{ap, ◌∙◌}
use native.Mathlib.Omega.{arith}
use Rattle.raster.specs.Grid.{numbered}
use Rattle.raster.specs.declared.grid.CellNo.{CellNo}
use Rattle.raster.proofs.GridLaws.{on-grid-at, number-below, stock-none, stock-some}
use Rattle.raster.proofs.grid.at.Goals as goal

pub returns-in_default : goal.returns-in_default
returns-in_default c = stock-none _ _ _ _ c.cell_of.ensures c.in_default.is

pub cell_no-requires : goal.cell_no-requires
cell_no-requires c = let w = on-grid-at _ _ _ _ _ c.cell_of.ensures c.in-Some.is in record { sides = c.requires.sides; i_lt_nx = w.0; j_lt_ny = w.1 }

pub bounds-map-k : goal.bounds-map-k
unfolding numbered
bounds-map-k c = let w = on-grid-at _ _ _ _ _ c.cell_of.ensures c.in-Some.is in
    omega (arith, c.index_of-k.ensures, ap (λ (n : CellNo). n.0) c.cell_no.ensures, number-below _ _ _ _ _ w.0 w.1 c.requires.long)

pub returns : goal.returns
unfolding numbered
returns c = stock-some _ _ _ _ _ _ _ c.cell_of.ensures c.in-Some.is (c.index_of-k.ensures ∙ ap (λ (n : CellNo). n.0) c.cell_no.ensures)
