-- A float test against a whole number gives an index: a float below n, cut to an unsigned integer, is below n. And the cut keeps the order.
-- Assumes nothing.
use mathlib.Core.Path.{◌≡◌, refl, sym, ap, ◌∙◌}
use mathlib.Core.Bool.{Bool, true, false}
use Prim.Native.Nat.{ℕ, ◌-◌, ◌*◌, ◌/◌, ◌^◌, ◌≤◌, ◌<◌, zero-le, min}
use native.Mathlib.Nat.{le_of_eq, lt_of_lt_of_le, mul-one, mul_right_comm, mul-le-mul_right, zero-div, lt_of_mul-lt-mul_right, div-lt_iff_lt-mul, zero-lt-suc}
use native.Mathlib.Omega.{arith}
use lib.IntN.{pos}
use lib.Dec.{le→leb}
use lib.Ieee.{Float, nan, inf, fin, Format, prec, up, down, lt, eq, le, is_nan, of_int, to_unsigned, in_float, round}
use lib.Ieee.Fits.{down_pos}
use lib.Ieee.Exact.{HasValue}
use lib.Ieee.Bits.{is_true}
use lib.Ieee.Nearest.{div_mono}
use lib.Ieee.Order.{round_mono}
use lib.Ieee.Back.{round_whole, unsigned_back}
use Rattle.loops.proofs.Cases.{never}
use Rattle.floats.proofs.OrderLaws.{le_of, lt_of, zero_of, not_le_lt}

-- ---- below a whole number

less : (a c : ℕ) → min a (c - 1) ≤ a
less a c = omega arith

under : (w n : ℕ) (x y : Float) → HasValue y false n 1 → 0 < n → lt x y ≡ true → to_unsigned w x < n
unfolding lt to_unsigned
under w n nan y v N h = N
under w n (inf s) nan v N h = absurd v
under w n (inf s) (inf t) v N h = absurd v
under w n (inf true) (fin t o d) v N h = N
under w n (inf false) (fin t o d) v N h = never h
under w n (fin true m e) y v N h = N
under w n (fin false m e) nan v N h = absurd v
under w n (fin false m e) (inf t) v N h = absurd v
under w n (fin false m e) (fin true o d) v N h = never h
under w n (fin false m e) (fin false o d) v N h =
    let k : m * up e * down d < o * up d * down e = lt_of false (m * up e * down d) false (o * up d * down e) h in
    let v' : o * up d ≡ n * down d = sym (mul-one (o * up d)) ∙ v.1 in
    let l : m * up e < n * down e = lt_of_mul-lt-mul_right (down d) (lt_of_lt_of_le k (le_of_eq (ap (λ (z : ℕ). z * down e) v' ∙ mul_right_comm n (down d) (down e)))) in
    let i : m * up e / down e < n = (div-lt_iff_lt-mul (down_pos e)).1 l in
    let j = less (m * up e / down e) (2 ^ w) in
    omega arith

whole-value : (f : Format) (n : ℕ) → n ≤ 2 ^ prec f → HasValue (of_int f (pos n)) false n 1
unfolding of_int
whole-value f n h = round_whole f false n h

value-number : (y : Float) (s : Bool) (a c : ℕ) → HasValue y s a c → is_nan y ≡ false
unfolding is_nan
value-number nan s a c v = absurd v
value-number (inf t) s a c v = absurd v
value-number (fin t m e) s a c v = refl

module _ (f : Format) (w n : ℕ) (x : Float) (N : 0 < n) (P : n ≤ 2 ^ prec f) where
  pub index_lt : lt x (of_int f (pos n)) ≡ true → to_unsigned w x < n
  index_lt h = under w n x (of_int f (pos n)) (whole-value f n P) N h

  pub index_not_le : is_nan x ≡ false → le (of_int f (pos n)) x ≡ false → to_unsigned w x < n
  index_not_le q h = under w n x (of_int f (pos n)) (whole-value f n P) N (not_le_lt x (of_int f (pos n)) q (value-number (of_int f (pos n)) false n 1 (whole-value f n P)) h)

-- ---- the cut keeps the order

keep : (a b c : ℕ) → a ≤ b → min a (c - 1) ≤ min b (c - 1)
keep a b c h = omega arith

most : (a c : ℕ) → min a (c - 1) ≤ c - 1
most a c = omega arith

nothing : (x d c : ℕ) → 0 < d → x ≡ 0 → min (x / d) (c - 1) ≤ 0
nothing x d c D e = let k : x / d ≡ 0 = ap (λ (z : ℕ). z / d) e ∙ zero-div d in omega arith

pub cut_mono : (w : ℕ) (x y : Float) → le x y ≡ true → to_unsigned w x ≤ to_unsigned w y
unfolding le lt eq to_unsigned
cut_mono w nan y h = zero-le
cut_mono w (inf true) y h = zero-le
cut_mono w (inf false) nan h = never h
cut_mono w (inf false) (inf true) h = never h
cut_mono w (inf false) (inf false) h = le_of_eq refl
cut_mono w (inf false) (fin t n d) h = never h
cut_mono w (fin true m e) y h = zero-le
cut_mono w (fin false m e) nan h = never h
cut_mono w (fin false m e) (inf true) h = never h
cut_mono w (fin false m e) (inf false) h = most (m * up e / down e) (2 ^ w)
cut_mono w (fin false m e) (fin true n d) h =
    nothing (m * up e) (down e) (2 ^ w) (down_pos e) (zero_of (m * up e) (down d) (down_pos d) (le_of false (m * up e * down d) true (n * up d * down e) h).0)
cut_mono w (fin false m e) (fin false n d) h =
    keep (m * up e / down e) (n * up d / down d) (2 ^ w)
    (div_mono (m * up e) (down e) (n * up d) (down d) (down_pos e) (down_pos d) (le_of false (m * up e * down d) false (n * up d * down e) h))

-- ---- a whole number comes back

pub cut-whole : (f : Format) (w n : ℕ) → n ≤ 2 ^ prec f → n < 2 ^ w → to_unsigned w (of_int f (pos n)) ≡ n
unfolding in_float
cut-whole f w n h k = (unsigned_back f w n (le→leb n (2 ^ prec f) h) k).1

-- whole numbers as floats are in their order, however large
pub whole_mono : (f : Format) (m n : ℕ) → m ≤ n → le (of_int f (pos m)) (of_int f (pos n)) ≡ true
unfolding of_int
whole_mono f m n h = is_true (le (round f false m 1) (round f false n 1)) (round_mono f m 1 n 1 (zero-lt-suc 0) (zero-lt-suc 0) (mul-le-mul_right 1 h))
