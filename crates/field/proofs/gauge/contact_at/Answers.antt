-- `field::gauge::contact_at` meets its contract. Assumes nothing.
use mathlib.Core.Path.{sym, subst}
use Prim.Native.Nat.{ℕ}
use native.Mathlib.Omega.{arith}
use Rattle.raster.specs.Contact.{samples_of}
use Rattle.raster.proofs.ContactLaws.{contact-is}
use Rattle.rims.specs.Offsets.{Rims}
use Rattle.setup.specs.Place.{contact_at}
use Rattle.field.proofs.GaugeLaws.{known-hits}
use Rattle.field.proofs.gauge.contact_at.Goals as goal

pub returns-in-Some : goal.returns-in-Some
unfolding contact_at
returns-in-Some c = contact-is _ _ _ _ _ _ _ c.samples_of-samples.ensures (known-hits _ _ _ _ _ _ _ c.samples_of-samples.ensures c.in-Some.is c.requires.known_at)

pub centre_hits-hits-requires : goal.centre_hits-hits-requires
unfolding samples_of
centre_hits-hits-requires c = let n = c.samples_of-samples.ensures in record { over = c.requires.over; rims = subst (λ (n : ℕ). Rims c.args.s.grid c.args.s.r n c.args.rim.now) (sym n) c.requires.tables.rims; n_nonzero = omega (arith, n) }

pub returns : goal.returns
unfolding contact_at
returns c = contact-is _ _ _ _ _ _ _ c.samples_of-samples.ensures c.centre_hits-hits.ensures
