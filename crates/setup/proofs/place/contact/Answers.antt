-- `setup::place::contact` meets its contract. Assumes nothing.
use mathlib.Core.Path.{sym, subst}
use Prim.Native.Nat.{ℕ}
use native.Mathlib.Omega.{arith}
use Rattle.raster.proofs.ContactLaws.{rim-same, contact-is}
use Rattle.rims.specs.Boxes.{Boxed}
use Rattle.setup.specs.Place.{contact_at}
use Rattle.setup.proofs.place.contact.Goals as goal

pub returns : goal.returns
unfolding contact_at
returns c = contact-is _ _ _ _ _ _ _ c.samples_of-n.ensures c.rim_hits.ensures
