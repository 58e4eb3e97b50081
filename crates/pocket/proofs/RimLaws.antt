-- A contact that the leaf counts has no more hits than samples, of which it has 8 to 4,096: it has an angle. Assumes nothing.
use mathlib.Core.Path.{◌≡◌, refl}
use mathlib.Core.Bool.{true, ◌&&◌}
use mathlib.Core.List.{List}
use Prim.Native.Nat.{ℕ, ◌≤◌}
use native.Mathlib.Omega.{arith}
use lib.ListN.{length}
use lib.Dec.{eqb, leb}
use lib.Ieee.{Float}
use borrow.Author.Tests.{eqb-true, le-leb, leb-true}
use Rattle.loops.proofs.Cases.{by_test, both}
use Rattle.geom.specs.declared.vec2.Vec2.{Vec2}
use Rattle.raster.specs.Contact.{samples_of, rim_contact}
use Rattle.raster.specs.declared.contact.Contact.{Contact}
use Rattle.raster.specs.declared.grid.Grid.{Grid}
use Rattle.raster.proofs.ContactLaws.{contact-most, contact-least}
use Rattle.std.specs.Prelude.{Result, Ok, Err}
use Rattle.pocket.specs.declared.refusals.Refusal.{Refusal}
use Rattle.pocket.specs.declared.refusals.Refusal.TheVariants.{OutOfRange, NoRegion, NoRaster, TooShort}
use Rattle.pocket.specs.Ranges.{samples_fit, contact_fit, grid_fit, disk_fit}
use Rattle.pocket.specs.Refusals.{Asked, contact_asked}
use Rattle.pocket.specs.Leaves.{unless, contact_of, contact_angle_of, Angled}
use Rattle.pocket.proofs.AskedLaws.{map-none}

module _ (g : Grid) (m : List ℕ) (c : Vec2) (r : Float) (samples : ℕ) where
  abbrev counted : Contact
  counted = rim_contact g m c r samples

  few : samples ≤ 4096 → counted.samples ≤ 4096
  unfolding rim_contact samples_of
  few h = omega arith

  fits : samples ≤ 4096 → contact_fit counted.hits counted.samples ≡ true
  unfolding contact_fit
  fits h = rw (le-leb _ _ (contact-most g m c r samples), le-leb _ _ (contact-least g m c r samples), le-leb _ _ (few h)) refl

  asked : contact_asked g c r samples (length m) ≡ Ok tt → samples ≤ 4096
  asked e =
      let numbers = (map-none g.nx g.ny (length m) (grid_fit g && (disk_fit c r && samples_fit samples)) e).0 in
      let rest = (both (grid_fit g) (disk_fit c r && samples_fit samples) numbers).1 in
      leb-true samples 4096 (both (disk_fit c r) (samples_fit samples) rest).1

  pub contact_angled : Angled (contact_of g m c r samples)
  unfolding contact_of contact_angle_of
  contact_angled = angled (contact_asked g c r samples (length m)) refl
    where
      angled : (why : Asked) → contact_asked g c r samples (length m) ≡ why → Angled (unless why Err (Ok counted))
      angled (Ok u) e = rw (fits (asked e)) refl
      angled (Err why) e = tt
