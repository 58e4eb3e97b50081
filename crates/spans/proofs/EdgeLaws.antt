-- A point of a cell lies between the cell's edges: else the side's arithmetic, which keeps the order, would put it into another cell. Assumes nothing.
use Rattle.std.specs.Prelude.{None, Option, Some}
use mathlib.Core.Path.{◌≡◌, refl, sym, subst}
use mathlib.Core.Bool.{true, false, not, ◌&&◌, ◌||◌}
use Prim.Native.Nat.{ℕ, ◌+◌, ◌^◌, ◌≤◌, ◌<◌}
use native.Mathlib.Omega.{arith}
use borrow.Author.Tests.{eqb-true, eqb-false, not-false}
use lib.Dec.{eqb, ltb, lit≤}
use lib.Ieee.{Float, nan, inf, fin, binary64, prec, add, sub, div, lt, le, is_nan, to_unsigned}
use Rattle.loops.proofs.Cases.{by_cases, by_test, neither}
use Rattle.floats.proofs.OrderLaws.{le_le, le_lt, lt_to_le, not_lt_le}
use Rattle.floats.proofs.IndexLaws.{index_lt, cut_mono, cut-whole}
use Rattle.numbers.specs.Order.{is_finite}
use Rattle.numbers.specs.Cast.{float}
use Rattle.geom.specs.Vec.{f0}
use Rattle.geom.specs.declared.vec2.Vec2.{Vec2}
use Rattle.raster.specs.Grid.{Sides, column_at, row_at, astray, on_grid, cell_of}
use Rattle.raster.specs.declared.grid.Grid.{Grid}
use Rattle.spans.specs.Spans.{Placed}
use Rattle.spans.specs.Ends.{below_of, beyond_of, Edged, AllEdged, Tame}
use Rattle.spans.proofs.MonoLaws.{Size, finite_number, share_mono}

-- ---- a cell that was found

abbrev Says : Grid → Vec2 → Option (ℕ × ℕ) → Type 0
Says g p None = Unit
Says g p (Some (i, j)) = (is_finite (column_at g p) ≡ true) × (is_finite (row_at g p) ≡ true) × (i ≡ to_unsigned 64 (column_at g p)) × (j ≡ to_unsigned 64 (row_at g p))

says : (g : Grid) (p : Vec2) → Says g p (cell_of g p)
unfolding cell_of on_grid
says g p =
    let x = column_at g p in
    let y = row_at g p in
    by_test (Says g p) (astray x y) None (on_grid g (to_unsigned 64 x) (to_unsigned 64 y)) (λ t. tt)
    (λ t.
    let a = neither (lt x f0) (lt y f0 || (not (is_finite x) || not (is_finite y))) t in
    let b = neither (lt y f0) (not (is_finite x) || not (is_finite y)) a.1 in
    let c = neither (not (is_finite x)) (not (is_finite y)) b.1 in
    by_test (Says g p) (ltb (to_unsigned 64 x) g.nx && ltb (to_unsigned 64 y) g.ny) (Some (to_unsigned 64 x, to_unsigned 64 y)) None
    (λ u. (not-false (is_finite x) c.0, not-false (is_finite y) c.1, refl, refl)) (λ u. tt))

-- a place that is a number was given a number
pub share_from : (x o cell : Float) → is_nan (div binary64 (sub binary64 x o) cell) ≡ false → is_nan x ≡ false
unfolding sub add div is_nan
share_from nan o cell h = h
share_from (inf s) o cell h = refl
share_from (fin s m e) o cell h = refl

-- ---- between the edges

abbrev pub Between : Float → Float → ℕ → Float → Type 0
Between o cell i x = (le (below_of o cell i) x ≡ true) × (le x (beyond_of o cell i) ≡ true)

between : (o cell : Float) → is_finite o ≡ true → Size cell → (i : ℕ) → 0 < i → i < 4096 → Edged o cell i
    → (x : Float) → is_finite (div binary64 (sub binary64 x o) cell) ≡ true → i ≡ to_unsigned 64 (div binary64 (sub binary64 x o) cell) → Between o cell i x
between o cell O S i I N E x F e =
    let n : is_nan x ≡ false = share_from x o cell (finite_number (div binary64 (sub binary64 x o) cell) F) in
    let l : 4096 ≤ 2 ^ prec binary64 = lit≤ tt in
    let a = below_of o cell i in
    let b = beyond_of o cell i in
    let u = div binary64 (sub binary64 x o) cell in (
      by_cases (lt x a)
          (λ t.
          let k : to_unsigned 64 u < i = index_lt binary64 64 i u I (omega arith) (le_lt u (div binary64 (sub binary64 a o) cell) (float i) (share_mono o cell O S x a (lt_to_le x a t)) E.low) in
          let z : ⊥ = omega arith in absurd z)
          (λ t. not_lt_le a x (finite_number a E.below_finite) n t),
      by_cases (lt b x)
          (λ t.
          let k : to_unsigned 64 (float (i + 1)) ≤ to_unsigned 64 u =
          cut_mono 64 (float (i + 1)) u (le_le (float (i + 1)) (div binary64 (sub binary64 b o) cell) u E.high (share_mono o cell O S b x (lt_to_le b x t))) in
          let w : to_unsigned 64 (float (i + 1)) ≡ i + 1 = cut-whole binary64 64 (i + 1) (omega arith) (omega arith) in
          let z : ⊥ = omega arith in absurd z)
          (λ t. not_lt_le x b n (finite_number b E.beyond_finite) t),
    )

pub tame_size : (g : Grid) → Tame g → Size g.cell
tame_size g t = record { finite = t.cell_finite; positive = t.positive }

-- the point of a cell with room, on both sides
module _ (g : Grid) (sides : Sides g) (t : Tame g) (s : ℕ) (S : 0 < s) (p : Vec2) (i j : ℕ) (h : Placed g s p i j) where
  pub column_edged : Edged g.origin.x g.cell i
  column_edged = let a = h.left in let b = h.right in t.columns.at i (omega arith) (omega arith)

  pub row_edged : Edged g.origin.y g.cell j
  row_edged = let a = h.below in let b = h.above in t.rows.at j (omega arith) (omega arith)

  found : Says g p (Some (i, j))
  found = subst (Says g p) h.at (says g p)

  pub column-between : Between g.origin.x g.cell i p.x
  column-between =
      let a = h.left in
      let b = h.right in
      let c = sides.columns in
      between g.origin.x g.cell t.x_finite (tame_size g t) i (omega arith) (omega arith) column_edged p.x found.0 found.2

  pub row-between : Between g.origin.y g.cell j p.y
  row-between =
      let a = h.below in
      let b = h.above in
      let c = sides.rows in
      between g.origin.y g.cell t.y_finite (tame_size g t) j (omega arith) (omega arith) row_edged p.y found.1 found.3

-- ---- for the proofs of the code

pub edged_none : (o cell : Float) → AllEdged o cell 1
edged_none o cell = record { at = λ i a b. absurd (let z : ⊥ = omega arith in z) }

pub edged_more : (o cell : Float) (n : ℕ) → AllEdged o cell n → Edged o cell n → AllEdged o cell (n + 1)
edged_more o cell n h e = record {
  at = λ i a b. by_cases (eqb i n) (λ t. subst (Edged o cell) (sym (eqb-true i n t)) e) (λ t. let d = eqb-false i n t in h.at i a (omega arith));
}

pub edged_end : (o cell : Float) (n k : ℕ) → n ≤ k → AllEdged o cell k → AllEdged o cell n
edged_end o cell n k l h = record { at = λ i a b. h.at i a (omega arith) }

pub edged_is : (o cell : Float) (i : ℕ) (a b x y : Float) → a ≡ below_of o cell i → b ≡ beyond_of o cell i → x ≡ float i → y ≡ float (i + 1) → is_finite a ≡ true → is_finite b ≡ true
    → lt (div binary64 (sub binary64 a o) cell) x ≡ true → le y (div binary64 (sub binary64 b o) cell) ≡ true → Edged o cell i
edged_is o cell i a b x y d e f k p q u v = record {
  below_finite = rw (← d) p;
  beyond_finite = rw (← e) q;
  low = rw (← d, ← f) u;
  high = rw (← e, ← k) v;
}
