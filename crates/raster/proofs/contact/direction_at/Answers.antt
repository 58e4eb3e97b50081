-- `raster::contact::direction_at` meets its contract. Assumes nothing.
use Rattle.raster.specs.Contact.{direction_at}
use Rattle.raster.proofs.contact.direction_at.Goals as goal

pub returns : goal.returns
unfolding direction_at
returns c = rw (← c.float_of.ensures, ← c.float_of-2.ensures) c.from_angle.ensures
