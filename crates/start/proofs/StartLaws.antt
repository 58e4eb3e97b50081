-- What stands before the first round, from what the steps left. Assumes nothing.
use mathlib.Core.Path.{◌≡◌, sym, ap, ◌∙◌, subst}
use mathlib.Core.Bool.{Bool}
use mathlib.Core.List.{List}
use Prim.Native.Nat.{ℕ, ◌+◌, ◌-◌, ◌*◌, ◌≤◌}
use native.Mathlib.Omega.{arith}
use lib.ListN.{length, take, drop, replicate, length-replicate}
use lib.Ieee.{Float}
use borrow.Rule.Slice.PartMut.{put_mid}
use Rattle.loops.specs.Regions.{Fits, within}
use Rattle.loops.proofs.FrameLaws.{back_there, back-only, only-before}
use Rattle.geom.specs.Region.{Held}
use Rattle.raster.specs.Grid.{Sides}
use Rattle.raster.specs.declared.grid.Grid.{Grid}
use Rattle.setup.specs.Layout.{run, rim_from, tables_end, Lent}
use Rattle.setup.specs.Place.{cells_of}
use Rattle.setup.specs.Tables.{Tables}
use Rattle.setup.specs.declared.Setup.{Setup}
use Rattle.setup.proofs.LayoutLaws.{run-put}
use Rattle.links.specs.Path.{tables_in}
use Rattle.entry.specs.Regions.{pocket_of}
use Rattle.start.specs.Start.{inside_of, stock_of, walls_of, allowed_of, reach_of, Started}
use Rattle.start.specs.Steps.{Room, Stocked, Reached, Tabled}
use Rattle.start.proofs.WriteLaws.{zeros, zeroed_is}

-- ---- the tables

module _ (s : Setup) (w : List Float) (n a e : ℕ) (N : n ≡ cells_of s) (A : a ≡ rim_from n) (E : e ≡ tables_end n) (h : 32 * cells_of s + 8192 ≤ length w) where
  tables_fit : Fits a e w
  tables_fit = record { start = omega arith; end = omega arith }

  pub tabled_is : (t : List Float) → length t ≡ length (take (e - a) (drop a w)) → Tables s t → Tabled s w (put_mid a (e - a) w t)
  tabled_is t l T =
      let back = back_there a e w tables_fit t l in
      let from : a ≡ rim_from (cells_of s) = A ∙ ap rim_from N in
      let to : e ≡ tables_end (cells_of s) = E ∙ ap tables_end N in
      let there : tables_in s (put_mid a (e - a) w t) ≡ t =
      sym (ap (λ (z : ℕ). within z e (put_mid a (e - a) w t)) from ∙ ap (λ (z : ℕ). within (rim_from (cells_of s)) z (put_mid a (e - a) w t)) to) ∙ back in
      record {
        tables = subst (Tables s) (sym there) T;
        wall = only-before a e w tables_fit (put_mid a (e - a) w t) (back-only a e w tables_fit t l) 0 (cells_of s) (omega arith) (omega arith);
      }

-- ---- the log

pub log_is : (g : Grid) (u t : List ℕ) (n a : ℕ) → n ≡ g.ny * g.nx → a ≡ 24 * n → 32 * (g.ny * g.nx) + 8192 ≤ length u
    → t ≡ replicate (length (take (a + n - a) (drop a u))) 0 → run 24 (g.ny * g.nx) (put_mid a (a + n - a) u t) ≡ zeros (g.ny * g.nx)
log_is g u t n a N K h T =
    let l : length (zeros n) ≡ n = length-replicate n 0 in
    ap (λ (z : ℕ). run 24 z (put_mid a (a + n - a) u t)) (sym N)
    ∙ ap (run 24 n) (zeroed_is 24 n a u t K (omega arith) T)
    ∙ run-put n u (zeros n) l 24 (omega arith)
    ∙ ap zeros N

-- ---- all of it

module _ (s : Setup) (whole : Bool) (vs : List Float) (lens regions b u : List ℕ) (w : List Float) (sides : Sides s.grid) (held : Held vs lens s.region)
    (room : Room (cells_of s) (length b) (length u) (length w)) (b₁ b₂ : List ℕ) (w₂ w₃ : List Float) (u₃ : List ℕ) where
  pub started-is : Stocked s.grid whole vs lens regions b₁ → Reached s vs lens b₁ b₂ w₂ → Tabled s w₂ w₃ → run 24 (cells_of s) u₃ ≡ zeros (cells_of s)
      → length b₂ ≡ length b → length u₃ ≡ length u → length w₃ ≡ length w → Started s whole vs lens regions b₂ u₃ w₃
  started-is S R W L x y z =
      let size = cells_of s in
      let walls : walls_of s.grid (run 5 size b₁) ≡ walls_of s.grid (inside_of s.grid vs lens (pocket_of lens regions)) = ap (walls_of s.grid) S.inside in
      let may : allowed_of s vs lens (run 5 size b₁) (walls_of s.grid (run 5 size b₁)) ≡ allowed_of s vs lens (inside_of s.grid vs lens (pocket_of lens regions)) (walls_of s.grid (inside_of s.grid vs lens (pocket_of lens regions))) =
      ap (λ (i : List ℕ). allowed_of s vs lens i (walls_of s.grid i)) S.inside in
      record {
        map = R.map ∙ S.map;
        wall = W.wall ∙ R.wall ∙ walls;
        allowed = R.allowed ∙ may;
        reach = R.reach ∙ ap (λ (m : List ℕ). reach_of s m (allowed_of s vs lens (run 5 size b₁) (walls_of s.grid (run 5 size b₁)))) S.map ∙ ap (reach_of s (stock_of whole s.grid vs lens regions)) may;
        abandoned = R.abandoned ∙ S.abandoned;
        dirty = R.dirty ∙ S.dirty;
        log = L;
        standing = record {
          sides = sides;
          bytes = omega (arith, room.bytes);
          words = omega (arith, room.words);
          doubles = omega (arith, room.doubles);
          held = held;
          tables = W.tables;
        };
      }

-- ---- the lengths that the entry asks for

pub room_of : (n b u f w : ℕ) → Lent n b u f w → Room n b u w
room_of n b u f w l = record { bytes = l.bytes; words = l.words; doubles = l.doubles }
