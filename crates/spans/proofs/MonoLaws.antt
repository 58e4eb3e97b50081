-- The arithmetic of a chord keeps the order, step by step: differences, cell numbers, whole numbers from them on, and the columns between those. Assumes nothing.
use Rattle.std.specs.Prelude.{None, Some}
use mathlib.Core.Path.{◌≡◌, refl, ap, ◌∙◌}
use mathlib.Core.Bool.{Bool, true, false, cond, ◌||◌}
use Prim.Native.Nat.{ℕ, zero, suc, ◌+◌, ◌-◌, ◌*◌, ◌/◌, ◌≤◌, ◌<◌, min}
use native.Mathlib.Nat.{zero-div, mul_right_comm, mul-le-mul_right, add-mul, le_of_mul-le-mul_right, lt-div-mul-add, div-lt_iff_lt-mul}
use native.Mathlib.Omega.{arith}
use lib.IntN.{ℤ}
use lib.Dec.{T}
use lib.Ieee.{Float, nan, inf, fin, binary64, up, down, neg, add, sub, div, lt, eq, le, is_nan, of_bits, of_int, to_unsigned}
use lib.Ieee.Fits.{down_pos}
use lib.Ieee.Nearest.{div_mono}
use lib.Ieee.Scale.{finite}
use Rattle.loops.proofs.Cases.{by_test, never, neither}
use Rattle.floats.proofs.OrderLaws.{zero_of, le_le, le_lt, le_numbers, le_not_lt, lt_not_le, not_lt_le, not_le_lt}
use Rattle.floats.proofs.SignLaws.{unsigned, neg_number, zero_not_over, under_top, over_bottom}
use Rattle.floats.proofs.SwapLaws.{add_swap}
use Rattle.floats.proofs.RoundMono.{round_le}
use Rattle.floats.proofs.AddMono.{sub_mono}
use Rattle.floats.proofs.MulMono.{fin_le}
use Rattle.floats.proofs.DivMono as DivMono
use Rattle.floats.proofs.NumberLaws.{round_number, add_number, div_number}
use Rattle.floats.proofs.IndexLaws.{cut_mono}
use Rattle.numbers.specs.Order.{max_of, is_finite}
use Rattle.numbers.specs.Whole.{above, floor_of, ceil_of}
use Rattle.numbers.specs.Cast.{float}
use Rattle.numbers.specs.Small.{half}
use Rattle.numbers.proofs.MaxLaws.{max_ge_left, max_ge_right}
use Rattle.geom.specs.Vec.{f0}
use Rattle.raster.specs.Disk.{Span, cell_at, first_from, cols_of}

-- ---- finite numbers

pub finite_of : (x : Float) → is_finite x ≡ true → T (finite x)
unfolding is_finite
finite_of nan h = never h
finite_of (inf s) h = never h
finite_of (fin s m e) h = tt

pub finite_number : (x : Float) → is_finite x ≡ true → is_nan x ≡ false
unfolding is_finite is_nan
finite_number nan h = never h
finite_number (inf s) h = never h
finite_number (fin s m e) h = refl

-- what lies between finite numbers is finite
pub between_finite : (a x b : Float) → is_finite a ≡ true → is_finite b ≡ true → le a x ≡ true → le x b ≡ true → is_finite x ≡ true
unfolding is_finite le lt eq
between_finite nan x b p q h k = never p
between_finite (inf s) x b p q h k = never p
between_finite (fin s m e) nan b p q h k = never h
between_finite (fin s m e) (inf true) b p q h k = never h
between_finite (fin s m e) (inf false) nan p q h k = never q
between_finite (fin s m e) (inf false) (inf t) p q h k = never q
between_finite (fin s m e) (inf false) (fin t n d) p q h k = never k
between_finite (fin s m e) (fin t n d) b p q h k = refl

-- ---- sums and differences with a finite operand

pub add_some : (x y : Float) → is_finite x ≡ true → is_nan y ≡ false → is_nan (add binary64 x y) ≡ false
unfolding is_finite is_nan add
add_some nan y p q = never p
add_some (inf s) y p q = never p
add_some (fin s m e) nan p q = q
add_some (fin s m e) (inf t) p q = refl
add_some (fin s m e) (fin t n d) p q = add_number binary64 (fin s m e) (fin t n d) tt tt

pub sub_some : (x y : Float) → is_finite x ≡ true → is_nan y ≡ false → is_nan (sub binary64 x y) ≡ false
unfolding sub
sub_some x y p q = add_some x (neg y) p (neg_number y ∙ q)

neg_finite : (x : Float) → is_finite x ≡ true → is_finite (neg x) ≡ true
unfolding is_finite neg
neg_finite nan h = never h
neg_finite (inf s) h = never h
neg_finite (fin s m e) h = refl

from_finite : (x y : Float) → is_nan x ≡ false → is_finite y ≡ true → is_nan (sub binary64 x y) ≡ false
unfolding sub
from_finite x y p q = ap is_nan (add_swap binary64 x (neg y)) ∙ add_some (neg y) x (neg_finite y q) p

-- ---- cell numbers

-- a cell's size: a finite number above 0
pub record Size (cell : Float) : Type 0 where
  pub finite : is_finite cell ≡ true
  pub positive : lt f0 cell ≡ true

pub size_unsigned : (c : Float) → Size c → T (unsigned c)
unfolding is_finite of_bits lt
size_unsigned nan s = never s.finite
size_unsigned (inf t) s = never s.finite
size_unsigned (fin true m e) s = never s.positive
size_unsigned (fin false m e) s = tt

pub over_size : (x c : Float) → Size c → is_nan x ≡ false → is_nan (div binary64 x c) ≡ false
unfolding is_finite is_nan div of_bits
over_size x nan s p = never s.finite
over_size x (inf t) s p = never s.finite
over_size x (fin t zero e) s p = absurd (zero_not_over t e f0 tt s.positive)
over_size nan (fin t (suc n) e) s p = p
over_size (inf u) (fin t (suc n) e) s p = refl
over_size (fin u m d) (fin t (suc n) e) s p = div_number binary64 (fin u m d) (fin t (suc n) e) tt tt

half_finite : is_finite half ≡ true
unfolding is_finite of_bits
half_finite = refl

pub zero_number : is_nan f0 ≡ false
unfolding is_nan of_bits
zero_number = refl

module _ (o cell : Float) (O : is_finite o ≡ true) (S : Size cell) where
  -- a place on a side, in cells
  share_number : (x : Float) → is_nan x ≡ false → is_nan (div binary64 (sub binary64 x o) cell) ≡ false
  share_number x p = over_size (sub binary64 x o) cell S (from_finite x o p O)

  pub share_mono : (x y : Float) → le x y ≡ true → le (div binary64 (sub binary64 x o) cell) (div binary64 (sub binary64 y o) cell) ≡ true
  share_mono x y h =
      let n = le_numbers x y h in
      DivMono.div_mono binary64 (sub binary64 x o) (sub binary64 y o) cell (size_unsigned cell S) (sub_mono binary64 x y o h (from_finite x o n.0 O) (from_finite y o n.1 O)) (share_number x n.0) (share_number y n.1)

  pub place_mono : (x y : Float) → le x y ≡ true → le (cell_at x o cell) (cell_at y o cell) ≡ true
  unfolding cell_at
  place_mono x y h =
      let n = le_numbers x y h in
      sub_mono binary64 (div binary64 (sub binary64 x o) cell) (div binary64 (sub binary64 y o) cell) half (share_mono x y h) (from_finite _ half (share_number x n.0) half_finite) (from_finite _ half (share_number y n.1) half_finite)

-- ---- whole numbers

above_mono : (a b c d : ℕ) → 0 < b → 0 < d → a * d ≤ c * b → above a b ≤ above c d
above_mono a b c d B D h =
    let k = above c d in
    let u : c + (d - 1) < k * d + d = lt-div-mul-add D in
    let v : c * b ≤ k * d * b = mul-le-mul_right b (let z : c ≤ k * d = omega arith in z) in
    let w : a ≤ k * b = le_of_mul-le-mul_right (let z : a * d ≤ k * b * d = omega (arith, mul_right_comm k d b) in z) D in
    let x : (k + 1) * b ≡ k * b + 1 * b = add-mul k 1 b in
    let y : above a b < k + 1 = (div-lt_iff_lt-mul B).1 (let z : a + (b - 1) < (k + 1) * b = omega arith in z) in
    omega arith

above-none : (d : ℕ) → 0 < d → above 0 d ≡ 0
above-none d D = let y : above 0 d < 1 = (div-lt_iff_lt-mul D).1 (let z : 0 + (d - 1) < 1 * d = omega arith in z) in omega arith

module _ (m : ℕ) (e : ℤ) (n : ℕ) (d : ℤ) where
  floor_fin : (s t : Bool) → le (fin s m e) (fin t n d) ≡ true → le (floor_of (fin s m e)) (floor_of (fin t n d)) ≡ true
  unfolding floor_of
  floor_fin false false h =
      let k = div_mono (m * up e) (down e) (n * up d) (down d) (down_pos e) (down_pos d) (fin_le false m e false n d h) in
      round_le binary64 false (m * up e / down e) 1 false (n * up d / down d) 1 (omega arith) (omega arith) (omega arith)
  floor_fin false true h =
      let k = fin_le false m e true n d h in
      let a : m * up e / down e ≡ 0 = ap (λ (z : ℕ). z / down e) (zero_of (m * up e) (down d) (down_pos d) k.0) ∙ zero-div (down e) in
      let b : above (n * up d) (down d) ≡ 0 = ap (λ (z : ℕ). above z (down d)) (zero_of (n * up d) (down e) (down_pos e) k.1) ∙ above-none (down d) (down_pos d) in
      round_le binary64 false (m * up e / down e) 1 true (above (n * up d) (down d)) 1 (omega arith) (omega arith) (omega arith, omega arith)
  floor_fin true false h = round_le binary64 true (above (m * up e) (down e)) 1 false (n * up d / down d) 1 (omega arith) (omega arith) tt
  floor_fin true true h =
      let k = above_mono (n * up d) (down d) (m * up e) (down e) (down_pos d) (down_pos e) (fin_le true m e true n d h) in
      round_le binary64 true (above (m * up e) (down e)) 1 true (above (n * up d) (down d)) 1 (omega arith) (omega arith) (omega arith)

  ceil_fin : (s t : Bool) → le (fin s m e) (fin t n d) ≡ true → le (ceil_of (fin s m e)) (ceil_of (fin t n d)) ≡ true
  unfolding ceil_of
  ceil_fin false false h =
      let k = above_mono (m * up e) (down e) (n * up d) (down d) (down_pos e) (down_pos d) (fin_le false m e false n d h) in
      round_le binary64 false (above (m * up e) (down e)) 1 false (above (n * up d) (down d)) 1 (omega arith) (omega arith) (omega arith)
  ceil_fin false true h =
      let k = fin_le false m e true n d h in
      let a : above (m * up e) (down e) ≡ 0 = ap (λ (z : ℕ). above z (down e)) (zero_of (m * up e) (down d) (down_pos d) k.0) ∙ above-none (down e) (down_pos e) in
      let b : n * up d / down d ≡ 0 = ap (λ (z : ℕ). z / down d) (zero_of (n * up d) (down e) (down_pos e) k.1) ∙ zero-div (down d) in
      round_le binary64 false (above (m * up e) (down e)) 1 true (n * up d / down d) 1 (omega arith) (omega arith) (omega arith, omega arith)
  ceil_fin true false h = round_le binary64 true (m * up e / down e) 1 false (above (n * up d) (down d)) 1 (omega arith) (omega arith) tt
  ceil_fin true true h =
      let k = div_mono (n * up d) (down d) (m * up e) (down e) (down_pos d) (down_pos e) (fin_le true m e true n d h) in
      round_le binary64 true (m * up e / down e) 1 true (n * up d / down d) 1 (omega arith) (omega arith) (omega arith)

floor_number : (s : Bool) (m : ℕ) (e : ℤ) → is_nan (floor_of (fin s m e)) ≡ false
unfolding floor_of
floor_number false m e = round_number binary64 false (m * up e / down e) 1
floor_number true m e = round_number binary64 true (above (m * up e) (down e)) 1

ceil_number : (s : Bool) (m : ℕ) (e : ℤ) → is_nan (ceil_of (fin s m e)) ≡ false
unfolding ceil_of
ceil_number false m e = round_number binary64 false (above (m * up e) (down e)) 1
ceil_number true m e = round_number binary64 true (m * up e / down e) 1

floor_inf : (s : Bool) → floor_of (inf s) ≡ inf s
unfolding floor_of
floor_inf s = refl

ceil_inf : (s : Bool) → ceil_of (inf s) ≡ inf s
unfolding ceil_of
ceil_inf s = refl

pub floor_mono : (x y : Float) → le x y ≡ true → le (floor_of x) (floor_of y) ≡ true
unfolding le lt eq
floor_mono nan y h = never h
floor_mono (inf s) nan h = never h
floor_mono (inf s) (inf t) h = rw (floor_inf s, floor_inf t) h
floor_mono (inf true) (fin t n d) h = rw (floor_inf true) (over_bottom (floor_of (fin t n d)) (floor_number t n d))
floor_mono (inf false) (fin t n d) h = never h
floor_mono (fin s m e) nan h = never h
floor_mono (fin s m e) (inf true) h = never h
floor_mono (fin s m e) (inf false) h = rw (floor_inf false) (under_top (floor_of (fin s m e)) (floor_number s m e))
floor_mono (fin s m e) (fin t n d) h = floor_fin m e n d s t h

ceil_mono : (x y : Float) → le x y ≡ true → le (ceil_of x) (ceil_of y) ≡ true
unfolding le lt eq
ceil_mono nan y h = never h
ceil_mono (inf s) nan h = never h
ceil_mono (inf s) (inf t) h = rw (ceil_inf s, ceil_inf t) h
ceil_mono (inf true) (fin t n d) h = rw (ceil_inf true) (over_bottom (ceil_of (fin t n d)) (ceil_number t n d))
ceil_mono (inf false) (fin t n d) h = never h
ceil_mono (fin s m e) nan h = never h
ceil_mono (fin s m e) (inf true) h = never h
ceil_mono (fin s m e) (inf false) h = rw (ceil_inf false) (under_top (ceil_of (fin s m e)) (ceil_number s m e))
ceil_mono (fin s m e) (fin t n d) h = ceil_fin m e n d s t h

max_least : (a b z : Float) → le a z ≡ true → le b z ≡ true → le (max_of a b) z ≡ true
unfolding max_of
max_least a b z h k = by_test (λ (y : Float). le y z ≡ true) (lt a b) b (cond (is_nan a) b a) (λ t. k) (λ t. by_test (λ (y : Float). le y z ≡ true) (is_nan a) b a (λ u. k) (λ u. h))

max_mono : (a b : Float) → le a b ≡ true → le (max_of a f0) (max_of b f0) ≡ true
max_mono a b h = max_least a f0 (max_of b f0) (le_le a b (max_of b f0) h (max_ge_left b f0 (le_numbers a b h).1)) (max_ge_right b f0 zero_number)

pub first_mono : (x y : Float) → le x y ≡ true → le (first_from x) (first_from y) ≡ true
unfolding first_from
first_mono x y h = max_mono (ceil_of x) (ceil_of y) (ceil_mono x y h)

-- ---- columns

-- the columns of the first span are columns of the second
abbrev pub Within : Span → Span → Type 0
Within None q = Unit
Within (Some (a, b)) None = ⊥
Within (Some (a, b)) (Some (c, d)) = (c ≤ a) × (b ≤ d)

float-number : (n : ℕ) → is_nan (float n) ≡ false
unfolding of_int
float-number n = round_number binary64 false n 1

pub cols_mono : (i0 i1 k0 k1 : Float) (nx : ℕ) → le i0 k0 ≡ true → le k1 i1 ≡ true → Within (cols_of k0 k1 nx) (cols_of i0 i1 nx)
unfolding cols_of
cols_mono i0 i1 k0 k1 nx h k =
    by_test (λ (p : Span). Within p (cols_of i0 i1 nx)) (lt k1 f0 || (lt k1 k0 || le (float nx) k0)) None (Some (to_unsigned 64 k0, min (to_unsigned 64 k1) (nx - 1))) (λ t. tt)
    (λ t.
    let a = neither (lt k1 f0) (lt k1 k0 || le (float nx) k0) t in
    let b = neither (lt k1 k0) (le (float nx) k0) a.1 in
    let n = le_numbers i0 k0 h in
    let m = le_numbers k1 i1 k in
    let u : lt i1 f0 ≡ false = le_not_lt f0 i1 (le_le f0 k1 i1 (not_lt_le f0 k1 zero_number m.0 a.0) k) in
    let v : lt i1 i0 ≡ false = le_not_lt i0 i1 (le_le i0 k0 i1 h (le_le k0 k1 i1 (not_lt_le k0 k1 n.1 m.0 b.0) k)) in
    let w : le (float nx) i0 ≡ false = lt_not_le i0 (float nx) (le_lt i0 k0 (float nx) h (not_le_lt k0 (float nx) n.1 (float-number nx) b.1)) in
    let x : to_unsigned 64 i0 ≤ to_unsigned 64 k0 = cut_mono 64 i0 k0 h in
    let y : to_unsigned 64 k1 ≤ to_unsigned 64 i1 = cut_mono 64 k1 i1 k in
    rw (u, v, w) (x, omega arith))
