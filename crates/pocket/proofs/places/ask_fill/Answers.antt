-- `pocket::places::ask_fill` meets its contract. Assumes nothing.
use Rattle.pocket.specs.Refusals.{fill_asked}
use Rattle.pocket.proofs.AskedLaws.{both_are}
use Rattle.pocket.proofs.LeafLaws.{when_yes, when_not}
use Rattle.pocket.proofs.places.ask_fill.Goals as goal

pub returns-then-not-grid_fits-coordinates_fit : goal.returns-then-not-grid_fits-coordinates_fit
unfolding fill_asked
returns-then-not-grid_fits-coordinates_fit c = when_not _ _ (both_are c.grid_fits.ensures c.coordinates_fit.ensures) c.if-not-grid_fits-coordinates_fit.true _ _

pub returns-then-not-shape_fits : goal.returns-then-not-shape_fits
unfolding fill_asked
returns-then-not-shape_fits c = when_yes _ _ (both_are c.grid_fits.ensures c.coordinates_fit.ensures) c.if-not-grid_fits-coordinates_fit.false _ _ _ (when_not _ _ c.shape_fits.ensures c.if-not-shape_fits.true _ _)

pub returns : goal.returns
unfolding fill_asked
returns c = when_yes _ _ (both_are c.grid_fits.ensures c.coordinates_fit.ensures) c.if-not-grid_fits-coordinates_fit.false _ _ _ (when_yes _ _ c.shape_fits.ensures c.if-not-shape_fits.false _ _ _ c.ask_size.ensures)
