-- `pocket::rim::contact_angle` meets its contract. Assumes nothing.
use mathlib.Core.Path.{ap}
use Rattle.std.specs.Prelude.{Ok, Err}
use Rattle.pocket.specs.Leaves.{contact_angle_of}
use Rattle.pocket.proofs.LeafLaws.{when_yes, when_not}
use Rattle.pocket.proofs.rim.contact_angle.Goals as goal

pub returns-then-contact_fits : goal.returns-then-contact_fits
unfolding contact_angle_of
returns-then-contact_fits c = when_yes _ _ c.contact_fits.ensures c.if-contact_fits.true _ _ _ (ap Ok c.angle_of.ensures)

pub returns : goal.returns
unfolding contact_angle_of
returns c = when_not _ _ c.contact_fits.ensures c.if-contact_fits.false _ _
