-- The tool's tables stand after they were worked out one after the other, each in its own part. Assumes nothing.
use mathlib.Core.Path.{◌≡◌, sym, ap, ◌∙◌, subst}
use mathlib.Core.List.{List}
use Prim.Native.Nat.{ℕ, ◌+◌, ◌-◌, ◌≤◌}
use native.Mathlib.Omega.{arith}
use lib.ListN.{length, get_or, take, drop}
use lib.Seq.{get_or-take, get_or-drop}
use lib.Ieee.{Float, binary64, nan, sub}
use borrow.Rule.Slice.PartMut.{put_mid}
use Rattle.loops.specs.Regions.{Fits, within}
use Rattle.loops.specs.Frame.{Only}
use Rattle.loops.proofs.FrameLaws.{back_there, back-only, only-before, only-after}
use Rattle.raster.specs.Contact.{samples_of}
use Rattle.raster.specs.Grid.{Sides}
use Rattle.spans.specs.Spans.{Spanning}
use Rattle.rims.specs.Offsets.{Rims}
use Rattle.rims.specs.Boxes.{Apart, Boxed}
use Rattle.rims.proofs.BoxLaws.{boxed_before, rims-apart}
use Rattle.raster.specs.declared.grid.Grid.{Grid}
use Rattle.setup.specs.Tables.{ToolTables}

-- ---- a part was written

-- one place as a part
one_at : (k : ℕ) (w : List Float) → get_or (within k (k + 1) w) 0 nan ≡ get_or w k nan
unfolding within
one_at k w = get_or-take (k + 1 - k) (drop k w) 0 nan (omega arith) ∙ get_or-drop k w 0 nan ∙ ap (λ (i : ℕ). get_or w i nan) (let z : k + 0 ≡ k = omega arith in z)

only-apart : (a e : ℕ) (w v : List Float) → Fits a e w → Only a e w v → Apart a e w v
only-apart a e w v F O = record {
  long = O.long;
  before = λ k h. sym (one_at k v) ∙ ap (λ (l : List Float). get_or l 0 nan) (only-before a e w F v O k (k + 1) (omega arith) (omega arith)) ∙ one_at k w;
  after = λ k h. sym (one_at k v) ∙ ap (λ (l : List Float). get_or l 0 nan) (only-after a e w F v O k (k + 1) h) ∙ one_at k w;
}

-- ---- the tables

-- those of the rim: of a tool of radius r, and of the wider one
module _ (g : Grid) (S : Sides g) (r wide : Float) where
  abbrev pub RimTables : ℕ → List Float → Type 0
  RimTables n w = Rims g r n w × Boxed g wide n 12544 w × Boxed g (sub binary64 r g.cell) n 14848 w

  pub rim-tables : (m n : ℕ) (w v : List Float) → n ≡ samples_of m → Rims g r n w
      → Apart 8192 17152 w v × Boxed g wide n 12544 v × Boxed g (sub binary64 r g.cell) n 14848 v → RimTables (samples_of m) v
  rim-tables m n w v e R B =
      subst (λ (k : ℕ). RimTables k v) e (rims-apart g S r n 12544 8192 17152 R.entered.few w v B.0 (omega arith) R, B.1, B.2)

  pub tables_are : (n : ℕ) (w u : List Float) → 8192 ≤ length w → length u ≡ length (take 2048 (drop 6144 w)) → RimTables n w → Spanning g r u
      → ToolTables g r wide n (put_mid 6144 2048 w u)
  tables_are n w u h U R P =
      let fits : Fits 6144 8192 w = record { start = omega arith; end = h } in
      let only : Only 6144 8192 w (put_mid 6144 2048 w u) = back-only 6144 8192 w fits u U in
      let apart = only-apart 6144 8192 w (put_mid 6144 2048 w u) fits only in
      record {
        long = omega (arith, only.long);
        rims = rims-apart g S r n 12544 6144 8192 R.0.entered.few w _ apart (omega arith) R.0;
        spans = subst (Spanning g r) (sym (back_there 6144 8192 w fits u U)) P;
        wider = boxed_before g S wide n 12544 6144 8192 R.0.entered.few w _ apart (omega arith) (omega arith) R.1;
        lesser = boxed_before g S (sub binary64 r g.cell) n 14848 6144 8192 R.0.entered.few w _ apart (omega arith) (omega arith) R.2;
      }
