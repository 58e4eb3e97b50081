-- A Setup made of its numbers: what the tests of a place require of it, and that their answers do not look at the bound. Assumes nothing.
use mathlib.Core.Path.{◌≡◌, sym, ap, ◌∙◌, subst}
use mathlib.Core.List.{List}
use Prim.Native.Nat.{ℕ}
use lib.ListN.{length}
use lib.Ieee.{Float}
use Rattle.geom.specs.Region.{Held}
use Rattle.geom.specs.declared.vec2.Vec2.{Vec2}
use Rattle.geom.specs.declared.region.Region.{Region}
use Rattle.raster.specs.Grid.{Over}
use Rattle.raster.specs.declared.grid.Grid.{Grid}
use Rattle.setup.specs.Place.{Walls, allowed_at, contact_at}
use Rattle.setup.specs.Tables.{Tables}
use Rattle.setup.specs.declared.Setup.{Setup}
use Rattle.links.specs.Straight.{clear_at, sample_clear, samples_clear, link_clear}
use Rattle.abi.specs.Setup.{placed, plain}

module _ (s : Setup) (g : Grid) (region : Region) (r keep : Float) (samples : ℕ) (e : s ≡ placed g region r s.keep samples) (k : s.keep.r ≡ keep) where
  pub walls_of_lem : (wall vs : List Float) (lens : List ℕ) → Over g (length wall) → Held vs lens region → Walls s wall vs lens
  walls_of_lem wall vs lens o h = record {
    over = over_of o;
    held = subst (Held vs lens) (sym (ap (λ (z : Setup). z.region) e)) h;
  }
    where
      over_of : Over g (length wall) → Over s.grid (length wall)
      over_of o = subst (λ (z : Grid). Over z (length wall)) (sym (ap (λ (z : Setup). z.grid) e)) o

  pub over-grid : (n : ℕ) → Over g n → Over s.grid n
  over-grid n o = subst (λ (z : Grid). Over z n) (sym (ap (λ (z : Setup). z.grid) e)) o

  pub tables_made : (w : List Float) → Tables (plain g region r keep samples) w → Tables s w
  tables_made w h = subst (λ (z : Setup). Tables z w) (sym e) h

  pub allowed-plain : (wall vs : List Float) (lens : List ℕ) (p : Vec2) → allowed_at s wall vs lens p ≡ allowed_at (plain g region r keep samples) wall vs lens p
  unfolding allowed_at
  allowed-plain wall vs lens p =
      ap (λ (z : Setup). allowed_at z wall vs lens p) e ∙ ap (λ (q : Float). allowed_at (plain g region r q samples) wall vs lens p) k

  pub link-plain : (wall vs : List Float) (lens m : List ℕ) (a b : Vec2) → link_clear s wall vs lens m a b ≡ link_clear (plain g region r keep samples) wall vs lens m a b
  unfolding link_clear samples_clear sample_clear clear_at allowed_at contact_at
  link-plain wall vs lens m a b =
      ap (λ (z : Setup). link_clear z wall vs lens m a b) e ∙ ap (λ (q : Float). link_clear (plain g region r q samples) wall vs lens m a b) k
