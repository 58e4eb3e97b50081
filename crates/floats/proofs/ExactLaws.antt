-- A value that the format holds is its own rounding: `round_self`. And two values of a format that are one fraction with one sign are the same: `value_unique`.
-- So a fraction that is at most such a value rounds to at most it. Assumes nothing.
use mathlib.Core.Path.{◌≡◌, refl, sym, ap, ◌∙◌, subst}
use mathlib.Core.Bool.{Bool, true, false, ◌&&◌, cond, true≢false}
use Prim.Native.Nat.{ℕ, zero, suc, ◌+◌, ◌-◌, ◌*◌, ◌/◌, ◌%◌, ◌^◌, ◌≤◌, ◌<◌}
use native.Mathlib.Nat.{le_of_eq, lt_of_le_of_lt, lt_of_lt_of_le, lt_of_not-le, not-le_of_lt, zero-mul, mul-one, mul_comm, mul_assoc, mul_right_comm, mul-lt-mul_of_pos_right, mul-pos, lt_of_mul-lt-mul_right}
use native.Mathlib.Omega.{arith}
use lib.IntN.{ℤ, pos, negsuc}
use lib.Dec.{T, ltb, leb, eqb, ltb→lt, leb→le}
use lib.Pow.{pow-add, pow_pos, pow-lt}
use lib.Ieee.{Float, nan, inf, fin, Format, prec, emax, low, hid, top, up, down, size, round, lt, le, fits, of_bits, to_bits}
use lib.Ieee.Fits.{down_pos, and_l, and_r, round-fits}
use lib.Ieee.Bits.{is_true, of_bits-to_bits}
use lib.Ieee.Exact.{HasValue, round_exact}
use lib.Ieee.Nearest.{div_same}
use lib.Ieee.Order.{transfer, round_mono}
use borrow.Author.Tests.{lt-ltb}

-- ---- what `fits` says of a finite value

module _ (f : Format) (s : Bool) (m : ℕ) (e : ℤ) (t : T (fits f (fin s (suc m) e))) where
  abbrev A : Bool
  A = eqb (suc m % 2) 1

  abbrev B : Bool
  B = ltb (suc m) (2 ^ prec f)

  abbrev C : Bool
  C = leb (down e) (2 ^ low f)

  abbrev D : Bool
  D = ltb (suc m * up e) (2 ^ suc (emax f) * down e)

  pub fits-few : suc m < 2 ^ prec f
  unfolding fits
  fits-few = ltb→lt (suc m) (2 ^ prec f) (and_r A B (and_l (A && B) C (and_l (A && B && C) D t)))

  pub fits_low : down e ≤ 2 ^ low f
  unfolding fits
  fits_low = leb→le (down e) (2 ^ low f) (and_r (A && B) C (and_l (A && B && C) D t))

  fits-high : suc m * up e < 2 ^ suc (emax f) * down e
  unfolding fits
  fits-high = ltb→lt (suc m * up e) (2 ^ suc (emax f) * down e) (and_r (A && B && C) D t)

pub fits_range : (f : Format) (s : Bool) (m : ℕ) (e : ℤ) → T (fits f (fin s m e)) → m * up e < 2 ^ suc (emax f) * down e
fits_range f s zero e t = lt_of_le_of_lt (le_of_eq (zero-mul (up e))) (mul-pos (pow_pos (suc (emax f))) (down_pos e))
fits_range f s (suc m) e t = fits-high f s m e t

-- ---- one fraction, one value

bits_at : (f : Format) (x : Float) (s : Bool) (a c : ℕ) → 0 < c → HasValue x s a c
    → let n = a * 2 ^ low f / c in to_bits f x ≡ cond s (top f) 0 + (size n - prec f) * hid f + n / 2 ^ (size n - prec f)
unfolding to_bits
bits_at f nan s a c C v = absurd v
bits_at f (inf t) s a c C v = absurd v
bits_at f (fin t m e) s a c C v =
    let l = 2 ^ low f in
    let n : m * up e * l / down e ≡ a * l / c =
    div_same (m * up e * l) (down e) (a * l) c (down_pos e) C (mul_right_comm (m * up e) l c ∙ ap (λ (z : ℕ). z * l) v.1 ∙ mul_right_comm a (down e) l) in
    ap (λ (z : ℕ). cond t (top f) 0 + (size z - prec f) * hid f + z / 2 ^ (size z - prec f)) n
    ∙ ap (λ (z : Bool). cond z (top f) 0 + (size (a * l / c) - prec f) * hid f + a * l / c / 2 ^ (size (a * l / c) - prec f)) v.0

pub value_unique : (f : Format) (x y : Float) (s : Bool) (a c : ℕ) → 0 < c → T (fits f x) → T (fits f y) → HasValue x s a c → HasValue y s a c → x ≡ y
value_unique f x y s a c C p q v w = sym (of_bits-to_bits f x p) ∙ ap (of_bits f) (bits_at f x s a c C v ∙ sym (bits_at f y s a c C w)) ∙ of_bits-to_bits f y q

-- ---- a value that fits is its own rounding

exact : (f : Format) (s : Bool) (m : ℕ) (e : ℤ) → T (fits f (fin s m e)) → HasValue (round f s (m * up e) (down e)) s (m * up e) (down e)
exact f s zero e t =
    round_exact f s (zero * up e) (down e) 0 0 (down_pos e) (pow_pos (prec f)) (pow_pos (low f + suc (emax f)))
    (ap (λ (z : ℕ). z * 2 ^ low f) (zero-mul (up e)) ∙ zero-mul (2 ^ low f) ∙ sym (zero-mul (down e)))
exact f s (suc m) (pos k) t =
    round_exact f s (suc m * 2 ^ k) 1 (suc m) (k + low f) (down_pos (pos k)) (fits-few f s m (pos k) t)
    (subst (λ (z : ℕ). suc m * z < 2 ^ (low f + suc (emax f))) (sym (pow-add 2 k (low f)))
    (lt_of_le_of_lt (le_of_eq (sym (mul_assoc (suc m) (2 ^ k) (2 ^ low f))))
    (lt_of_lt_of_le (mul-lt-mul_of_pos_right (fits_range f s (suc m) (pos k) t) (pow_pos (low f)))
    (le_of_eq (ap (λ (z : ℕ). z * 2 ^ low f) (mul-one (2 ^ suc (emax f))) ∙ mul_comm (2 ^ suc (emax f)) (2 ^ low f) ∙ sym (pow-add 2 (low f) (suc (emax f))))))))
    (mul_assoc (suc m) (2 ^ k) (2 ^ low f) ∙ ap (λ (z : ℕ). suc m * z) (sym (pow-add 2 k (low f))) ∙ sym (mul-one (suc m * 2 ^ (k + low f))))
exact f s (suc m) (negsuc k) t =
    let K : suc k ≤ low f = under (fits_low f s m (negsuc k) t) in
    let j = low f - suc k in
    let J : 2 ^ low f ≡ 2 ^ j * 2 ^ suc k = ap (λ (z : ℕ). 2 ^ z) (back (low f) (suc k) K) ∙ pow-add 2 j (suc k) in
    round_exact f s (suc m * 1) (2 ^ suc k) (suc m) j (pow_pos (suc k)) (fits-few f s m (negsuc k) t)
    (lt_of_mul-lt-mul_right (2 ^ suc k)
    (lt_of_le_of_lt (le_of_eq (mul_assoc (suc m) (2 ^ j) (2 ^ suc k) ∙ ap (λ (z : ℕ). suc m * z) (sym J) ∙ ap (λ (z : ℕ). z * 2 ^ low f) (sym (mul-one (suc m)))))
    (lt_of_lt_of_le (mul-lt-mul_of_pos_right (fits_range f s (suc m) (negsuc k) t) (pow_pos (low f)))
    (le_of_eq (mul_right_comm (2 ^ suc (emax f)) (2 ^ suc k) (2 ^ low f) ∙ ap (λ (z : ℕ). z * 2 ^ suc k) (mul_comm (2 ^ suc (emax f)) (2 ^ low f) ∙ sym (pow-add 2 (low f) (suc (emax f)))))))))
    (ap (λ (z : ℕ). z * 2 ^ low f) (mul-one (suc m)) ∙ ap (λ (z : ℕ). suc m * z) J ∙ sym (mul_assoc (suc m) (2 ^ j) (2 ^ suc k)))
  where
    back : (l i : ℕ) → i ≤ l → l ≡ l - i + i
    back l i h = omega arith

    less : (a b : ℕ) → (b < a → ⊥) → a ≤ b
    less a b h = omega arith

    under : 2 ^ suc k ≤ 2 ^ low f → suc k ≤ low f
    under h = less (suc k) (low f) (λ g. not-le_of_lt (pow-lt g) h)

pub round_self : (f : Format) (s : Bool) (m : ℕ) (e : ℤ) → T (fits f (fin s m e)) → round f s (m * up e) (down e) ≡ fin s m e
round_self f s m e t = value_unique f (round f s (m * up e) (down e)) (fin s m e) s (m * up e) (down e) (down_pos e) (round-fits f s (m * up e) (down e)) t (exact f s m e t) (refl, refl)

-- ---- values as fractions

pub lt_of_values : (x y : Float) (a c b d : ℕ) → 0 < c → 0 < d → HasValue x false a c → HasValue y false b d → a * d < b * c → lt x y ≡ true
unfolding lt
lt_of_values nan y a c b d C D v w h = absurd v
lt_of_values (inf s) y a c b d C D v w h = absurd v
lt_of_values (fin true m e) y a c b d C D v w h = absurd (true≢false v.0)
lt_of_values (fin false m e) nan a c b d C D v w h = absurd w
lt_of_values (fin false m e) (inf t) a c b d C D v w h = absurd w
lt_of_values (fin false m e) (fin true n g) a c b d C D v w h = absurd (true≢false w.0)
lt_of_values (fin false m e) (fin false n g) a c b d C D v w h =
    lt-ltb (m * up e * down g) (n * up g * down e)
    (lt_of_not-le (λ k. not-le_of_lt h (transfer b a d c (n * up g) (m * up e) (down g) (down e) (down_pos g) (down_pos e) (sym w.1) (sym v.1) k)))

-- a fraction that is at most a value that fits rounds to at most that value
pub round-at-most : (f : Format) (a c m : ℕ) (e : ℤ) → 0 < c → T (fits f (fin false m e)) → a * down e ≤ m * up e * c → le (round f false a c) (fin false m e) ≡ true
round-at-most f a c m e C t h =
    subst (λ (z : Float). le (round f false a c) z ≡ true) (round_self f false m e t) (is_true _ (round_mono f a c (m * up e) (down e) C (down_pos e) h))

pub round-at-least : (f : Format) (a c m : ℕ) (e : ℤ) → 0 < c → T (fits f (fin false m e)) → m * up e * c ≤ a * down e → le (fin false m e) (round f false a c) ≡ true
round-at-least f a c m e C t h =
    subst (λ (z : Float). le z (round f false a c) ≡ true) (round_self f false m e t) (is_true _ (round_mono f (m * up e) (down e) a c (down_pos e) C h))
