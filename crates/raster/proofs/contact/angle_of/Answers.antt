-- `raster::contact::angle_of` meets its contract. Assumes nothing.
use Rattle.raster.specs.Contact.{angle_of}
use Rattle.raster.proofs.contact.angle_of.Goals as goal

pub returns : goal.returns
unfolding angle_of
returns c = rw (← c.float_of.ensures, ← c.float_of-2.ensures)
