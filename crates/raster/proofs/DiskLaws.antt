-- What each return of a function on rows shows, over plain values: every callee's result is a variable, with what the callee ensures as an equation.
-- A proof hands over the results' `ensures` and the tests. Assumes nothing.
use Rattle.std.specs.Prelude.{None, Some}
use mathlib.Core.Path.{◌≡◌, refl, sym, ◌∙◌, subst}
use mathlib.Core.Bool.{true, false}
use Prim.Native.Nat.{ℕ, ◌+◌, ◌-◌, ◌^◌, ◌≤◌, ◌<◌, zero-le, min}
use native.Mathlib.Nat.{le_trans, le_of_lt, lt_of_lt_of_le, mul-le-mul_right}
use native.Mathlib.Omega.{arith}
use lib.IntN.{pos}
use lib.Dec.{lit<, lit≤}
use borrow.Author.Tests.{le-leb, lt-leb}
use lib.Ieee.{Float, fin, binary64, add, sub, mul, lt, le, eq, of_int, of_bits, to_unsigned}
use lib.Ieee.Back.{round_whole}
use lib.Ieee.Casts.{to_unsigned-lt}
use lib.Ieee.Positive.{den}
use Rattle.floats.proofs.ExactLaws.{lt_of_values}
use Rattle.floats.proofs.IndexLaws.{cut-whole, whole_mono}
use Rattle.floats.proofs.OrderLaws.{le_not_lt, lt_not_le, lt_le, le_numbers}
use Rattle.floats.proofs.RoundMono.{round_zero}
use Rattle.numbers.proofs.CastLaws.{range, in_range_lem}
use Rattle.numbers.proofs.WholeLaws.{nought, limit, risen, stayed, floor_over, ceil_over}
use Rattle.numbers.specs.Order.{max_of}
use Rattle.numbers.specs.Whole.{floor_of, ceil_of}
use Rattle.numbers.specs.Root.{root_of}
use Rattle.geom.specs.Vec.{f0}
use Rattle.geom.specs.declared.vec2.Vec2.{Vec2}
use Rattle.numbers.specs.Cast.{float}
use Rattle.raster.specs.Disk.{Span, row_y, cell_at, first_from, cols_of, chord_of, last_row, rows_of, left_of, right_of, less, two}
use Rattle.raster.specs.declared.grid.Grid.{Grid}
use Rattle.raster.specs.declared.disk.Rows.{Rows}
use Rattle.raster.specs.declared.disk.Crescent.{Crescent}

pub first-is : (x u r : Float) → u ≡ ceil_of x → r ≡ max_of u f0 → r ≡ first_from x
unfolding first_from
first-is x u r e d = rw (← e) d

module _ (i0 i1 : Float) (nx : ℕ) (a : lt i1 f0 ≡ false) (b : lt i1 i0 ≡ false) (n : Float) (p : n ≡ float nx) where
  pub cols_past : le n i0 ≡ true → None ≡ cols_of i0 i1 nx
  unfolding cols_of
  cols_past t = rw (a, b, ← p, t)

  pub cols_are : le n i0 ≡ false → (k0 k1 l : ℕ) → k0 ≡ to_unsigned 64 i0 → k1 ≡ to_unsigned 64 i1 → l ≡ min k1 (nx - 1) → Some (k0, l) ≡ cols_of i0 i1 nx
  unfolding cols_of
  cols_are t k0 k1 l u v w = rw (a, b, ← p, t, ← u, ← v, ← w)

-- ---- columns by whole numbers

zero_is : float 0 ≡ f0
unfolding of_int of_bits
zero_is = round_zero binary64 false 1 (lit< tt)

none_below : (k : ℕ) → lt (float k) f0 ≡ false
none_below k = subst (λ (z : Float). lt (float k) z ≡ false) zero_is (le_not_lt (float 0) (float k) (whole_mono binary64 0 k zero-le))

whole-less : (m n : ℕ) → m < n → n ≤ 2 ^ 53 → lt (float m) (float n) ≡ true
unfolding of_int
whole-less m n h b =
    lt_of_values (float m) (float n) m 1 n 1 (lit< tt) (lit< tt) (round_whole binary64 false m (le_trans (le_of_lt h) b)) (round_whole binary64 false n b) (omega arith)

-- of a number that is a float exactly, however large the other
whole-past : (n k : ℕ) → k ≤ 2 ^ 32 → k < n → le (float n) (float k) ≡ false
whole-past n k b h = lt_not_le (float k) (float n) (lt_le (float k) (float (k + 1)) (float n) (whole-less k (k + 1) (omega arith) (omega arith)) (whole_mono binary64 (k + 1) n (omega arith)))

back : (k : ℕ) → k ≤ 2 ^ 32 → to_unsigned 64 (float k) ≡ k
back k b = cut-whole binary64 64 k (omega arith) (omega arith)

module _ (k0 k1 nx : ℕ) (a : k0 ≤ 2 ^ 32) (b : k1 ≤ 2 ^ 32) where
  pub between_none : k1 < k0 → None ≡ cols_of (float k0) (float k1) nx
  unfolding cols_of
  between_none h = rw (none_below k1, whole-less k1 k0 h (omega arith))

  module _ (h : k0 ≤ k1) where
    pub between-past : nx ≤ k0 → None ≡ cols_of (float k0) (float k1) nx
    unfolding cols_of
    between-past p = rw (none_below k1, le_not_lt (float k0) (float k1) (whole_mono binary64 k0 k1 h), whole_mono binary64 nx k0 p)

    pub between_are : k0 < nx → (l : ℕ) → l ≡ min k1 (nx - 1) → Some (k0, l) ≡ cols_of (float k0) (float k1) nx
    unfolding cols_of
    between_are p l e = rw (none_below k1, le_not_lt (float k0) (float k1) (whole_mono binary64 k0 k1 h), whole-past nx k0 a p, back k0 a, back k1 b, e)

-- ---- a place from 1 on and below 2 ^ 32

first-whole : (x : Float) (k : ℕ) → float k ≡ ceil_of x → float k ≡ first_from x
unfolding first_from max_of
first-whole x k e = rw (← e, none_below k, (le_numbers (float k) (float k) (whole_mono binary64 k k (omega arith))).0)

module _ (x : Float) (a : le (fin false 1 (pos 0)) x ≡ true) (b : lt x (fin false 1 (pos 32)) ≡ true) where
  over : lt nought x ≡ true
  unfolding lt
  over = lt_le nought (fin false 1 (pos 0)) x refl a

  under : lt x limit ≡ true
  unfolding lt le eq
  under = lt_le x (fin false 1 (pos 32)) limit b refl

  module _ (t : ℕ) (e : t ≡ to_unsigned 32 x) where
    cut : t ≡ to_unsigned 64 x
    cut = let r = range x a b in e ∙ sym (in_range_lem 32 x r.is_pos r.hi) ∙ in_range_lem 64 x r.is_pos (lt_of_lt_of_le r.hi (mul-le-mul_right (den x) (lit≤ tt)))

    pub place-few : t < 2 ^ 32
    place-few = subst (λ (z : ℕ). z < 2 ^ 32) (sym e) (to_unsigned-lt 32 x)

    pub place_floor : float t ≡ floor_of x
    place_floor = floor_over x over under t cut

    pub raised_more : lt (float t) x ≡ true → (float (t + 1) ≡ first_from x) × (t + 1 ≤ 2 ^ 32)
    raised_more h = (first-whole x (t + 1) (ceil_over x over (t + 1) (risen x over under t cut h) under), omega (arith, place-few))

    pub raised_not : lt (float t) x ≡ false → (float t ≡ first_from x) × (t ≤ 2 ^ 32)
    raised_not h = (first-whole x t (ceil_over x over t (stayed x over under t cut h) under), omega (arith, place-few))

pub from-whole : (x0 x1 : Float) (k0 k1 nx : ℕ) (s : Span) → float k0 ≡ first_from x0 → float k1 ≡ floor_of x1 → s ≡ cols_of (float k0) (float k1) nx → s ≡ cols_of (first_from x0) (floor_of x1) nx
from-whole x0 x1 k0 k1 nx s a b e = rw (← a, ← b) e

pub from_floats : (x0 x1 i0 i1 : Float) (nx : ℕ) (s : Span) → i0 ≡ first_from x0 → i1 ≡ floor_of x1 → s ≡ cols_of i0 i1 nx → s ≡ cols_of (first_from x0) (floor_of x1) nx
from_floats x0 x1 i0 i1 nx s a b e = rw (← a, ← b) e

abbrev h2_of : Float → Float → Float → Float
h2_of r2 y cy = sub binary64 r2 (mul binary64 (sub binary64 y cy) (sub binary64 y cy))

module _ (g : Grid) (c : Vec2) (r2 : Float) (j : ℕ) (y : Float) (p : y ≡ row_y g j) where
  pub chord_none : lt (h2_of r2 y c.y) f0 ≡ true → None ≡ chord_of g c r2 j
  unfolding chord_of
  chord_none t = rw (← p, t)

  pub chord_some : lt (h2_of r2 y c.y) f0 ≡ false → (h u d : Float) (s : Span) → h ≡ root_of (h2_of r2 y c.y)
      → u ≡ cell_at (sub binary64 c.x h) g.origin.x g.cell → d ≡ cell_at (add binary64 c.x h) g.origin.x g.cell
      → s ≡ cols_of (first_from u) (floor_of d) g.nx → s ≡ chord_of g c r2 j
  unfolding chord_of
  chord_some t h u d s e₁ e₂ e₃ e₄ = rw (← p, t, ← e₁, ← e₂, ← e₃) e₄

pub last-is : (j1 : Float) (ny k j : ℕ) → lt j1 f0 ≡ false → k ≡ to_unsigned 64 j1 → j ≡ min k (ny - 1) → j ≡ last_row j1 ny
unfolding last_row
last-is j1 ny k j a e d = rw (a, ← e) d

pub rows_are : (g : Grid) (c : Vec2) (r u w d e : Float) (j0 j1 : ℕ) → u ≡ cell_at (sub binary64 c.y r) g.origin.y g.cell → w ≡ first_from u
    → d ≡ cell_at (add binary64 c.y r) g.origin.y g.cell → e ≡ floor_of d → j0 ≡ to_unsigned 64 w → j1 ≡ last_row e g.ny → ◌≡◌ {A = Rows} (j0, j1) (rows_of g c r)
unfolding rows_of
rows_are g c r u w d e j0 j1 e₁ e₂ e₃ e₄ e₅ e₆ = rw (← e₁, ← e₂, ← e₃, ← e₄, ← e₅, ← e₆)

pub less_none : (s q : Span) → s ≡ None → two s None ≡ less s q
unfolding less
less_none s q e = rw e

module _ (s q : Span) (i0 i1 : ℕ) (e : s ≡ Some (i0, i1)) where
  pub less-all : q ≡ None → two s None ≡ less s q
  unfolding less
  less-all d = rw (e, d)

  module _ (p0 p1 : ℕ) (d : q ≡ Some (p0, p1)) where
    pub less_two : p0 ≤ i1 → i0 ≤ p1 → (l r : Span) → l ≡ left_of i0 p0 → r ≡ right_of p1 i1 → two l r ≡ less s q
    unfolding less
    less_two a b l r u v = rw (e, d, le-leb p0 i1 a, le-leb i0 p1 b, u, v)

    pub less-before : p0 ≤ i1 → p1 < i0 → two s None ≡ less s q
    unfolding less
    less-before a b = rw (e, d, le-leb p0 i1 a, lt-leb i0 p1 b)

    pub less-after : i1 < p0 → two s None ≡ less s q
    unfolding less
    less-after a = rw (e, d, lt-leb p0 i1 a)

pub crescent-is : (g : Grid) (prev c : Vec2) (r2 : Float) (j : ℕ) (s q : Span) (k : Crescent) → s ≡ chord_of g c r2 j → q ≡ chord_of g prev r2 j → k ≡ less s q
    → k ≡ less (chord_of g c r2 j) (chord_of g prev r2 j)
crescent-is g prev c r2 j s q k a b e = rw (← a, ← b) e
