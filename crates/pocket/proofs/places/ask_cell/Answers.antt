-- `pocket::places::ask_cell` meets its contract. Assumes nothing.
use mathlib.Core.Path.{refl}
use Rattle.pocket.specs.Refusals.{cell_asked}
use Rattle.pocket.proofs.AskedLaws.{both_are}
use Rattle.pocket.proofs.LeafLaws.{when_yes, when_not}
use Rattle.pocket.proofs.places.ask_cell.Goals as goal

pub returns-then-not-grid_fits-point_fits : goal.returns-then-not-grid_fits-point_fits
unfolding cell_asked
returns-then-not-grid_fits-point_fits c = when_not _ _ (both_are c.grid_fits.ensures c.point_fits.ensures) c.if-not-grid_fits-point_fits.true _ _

pub returns-then-not-sides_fit : goal.returns-then-not-sides_fit
unfolding cell_asked
returns-then-not-sides_fit c = when_yes _ _ (both_are c.grid_fits.ensures c.point_fits.ensures) c.if-not-grid_fits-point_fits.false _ _ _ (when_not _ _ c.sides_fit.ensures c.if-not-sides_fit.true _ _)

pub returns : goal.returns
unfolding cell_asked
returns c = when_yes _ _ (both_are c.grid_fits.ensures c.point_fits.ensures) c.if-not-grid_fits-point_fits.false _ _ _ (when_yes _ _ c.sides_fit.ensures c.if-not-sides_fit.false _ _ _ refl)
