-- `abi::of_raster::raster_engagement` meets its contract. Assumes nothing.
use mathlib.Core.Path.{ap, ◌∙◌}
use Rattle.raster.specs.Contact.{angle_of}
use Rattle.raster.proofs.ContactLaws.{rim-same}
use Rattle.abi.proofs.of_raster.raster_engagement.Goals as goal

pub rim_contact-t-requires : goal.rim_contact-t-requires
rim_contact-t-requires c = record { over = c.requires.over; rim = rim-same c.samples_of.ensures c.fill_rim.ensures.1 }

pub returns : goal.returns
returns c = c.angle_of.ensures ∙ ap angle_of c.rim_contact-t.ensures
