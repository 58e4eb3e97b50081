-- `pocket::values::wanted` meets its contract. Assumes nothing.
use mathlib.Core.Path.{ap}
use Rattle.std.specs.Prelude.{Ok, Err}
use Rattle.pocket.specs.Leaves.{wanted_cells_of}
use Rattle.pocket.proofs.AskedLaws.{both_are}
use Rattle.pocket.proofs.LeafLaws.{when_yes, when_not}
use Rattle.pocket.proofs.values.wanted.Goals as goal

pub returns-then-is_finite-cell_fits : goal.returns-then-is_finite-cell_fits
unfolding wanted_cells_of
returns-then-is_finite-cell_fits c = when_yes _ _ (both_are c.is_finite.ensures c.cell_fits.ensures) c.if-is_finite-cell_fits.true _ _ _ (ap Ok c.wanted.ensures)

pub returns : goal.returns
unfolding wanted_cells_of
returns c = when_not _ _ (both_are c.is_finite.ensures c.cell_fits.ensures) c.if-is_finite-cell_fits.false _ _
