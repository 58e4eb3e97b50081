-- `raster::contact::rim_contact` meets its contract. Assumes nothing.
use mathlib.Core.Path.{sym}
use Rattle.raster.proofs.ContactLaws.{rim-same, contact-is}
use Rattle.raster.proofs.contact.rim_contact.Goals as goal

pub returns : goal.returns
returns c = contact-is _ _ _ _ _ _ _ c.samples_of-n.ensures c.hits.ensures
