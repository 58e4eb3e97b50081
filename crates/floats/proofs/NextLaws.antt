-- Of values whose sign is clear the order is that of their bit patterns. So between two whose patterns follow each other there is none: `none_between`.
-- Assumes nothing.
use mathlib.Core.Path.{◌≡◌, refl, sym, ap, ◌∙◌, subst}
use mathlib.Core.Logic.{inl, inr}
use mathlib.Core.Bool.{Bool, true, false, not, true≢false}
use Prim.Native.Nat.{ℕ, suc, ◌+◌, ◌-◌, ◌*◌, ◌/◌, ◌^◌, ◌≤◌, ◌<◌}
use native.Mathlib.Nat.{le_trans, le_of_eq, le_of_lt, lt_of_le_of_lt, lt_of_lt_of_le, not-le_of_lt, eq-or-lt_of_le, zero-add, mul_comm, mul_right_comm, mul-le-mul_right, mul-lt-mul_of_pos_right, le-div_iff_mul-le, div-lt_iff_lt-mul}
use native.Mathlib.Omega.{arith}
use lib.Dec.{T}
use lib.Pow.{pow-add, pow_pos}
use lib.Ieee.{Float, nan, inf, fin, Format, binary32, binary64, prec, emax, low, hid, ones, up, down, size, lt, eq, le, fits, of_bits, to_bits}
use lib.Ieee.Digits.{size-lt, size-le, size_reaches}
use lib.Ieee.Fits.{kept-lt, down_pos}
use lib.Ieee.Nearest.{div_mono}
use lib.Ieee.Bits.{of_bits-to_bits}
use Rattle.loops.proofs.Cases.{by_cases, never}
use Rattle.floats.proofs.ExactLaws.{fits_range}
use Rattle.floats.proofs.SignLaws.{unsigned, number, signed_under, sign_up}
use Rattle.floats.proofs.OrderLaws.{le_of, lt_irrefl, lt_to_le, not_lt_le, lt_numbers}

-- ---- the pattern of a size in units of the format's smallest value

abbrev written : Format → ℕ → ℕ
written f n = 0 + (size n - prec f) * hid f + n / 2 ^ (size n - prec f)

more_field : (f : Format) (k l q r : ℕ) → k < l → q < 2 ^ prec f → hid f ≤ r → 0 + k * hid f + q ≤ 0 + l * hid f + r
more_field binary32 k l q r h a b = omega arith
more_field binary64 k l q r h a b = omega arith

pub whole-field : (f : Format) (z : ℕ) → 0 < z - prec f → prec f - 1 + (z - prec f) < z
whole-field binary32 z h = omega arith
whole-field binary64 z h = omega arith

fewer : (x y p : ℕ) → x ≤ y → x - p ≤ y - p
fewer x y p h = omega arith

written_mono : (f : Format) (a b : ℕ) → a ≤ b → written f a ≤ written f b
written_mono f a b h =
    let k = size a - prec f in
    let l = size b - prec f in
    elim (eq-or-lt_of_le (fewer (size a) (size b) (prec f) (size-le a (size b) (lt_of_le_of_lt h (size-lt b))))) [
      | inl e ↦
          subst (λ (j : ℕ). 0 + j * hid f + a / 2 ^ j ≤ written f b) (sym e)
          (let d : a / 2 ^ l ≤ b / 2 ^ l = div_mono a (2 ^ l) b (2 ^ l) (pow_pos l) (pow_pos l) (mul-le-mul_right (2 ^ l) h) in
          past (l * hid f) (a / 2 ^ l) (b / 2 ^ l) d)
      | inr g ↦
          more_field f k l (a / 2 ^ k) (b / 2 ^ l) g (kept-lt (prec f) a)
          ((le-div_iff_mul-le (pow_pos l)).1 (le_trans (le_of_eq (sym (pow-add 2 (prec f - 1) l))) (size_reaches b (prec f - 1 + l) (whole-field f (size b) (some k l g)))))
    ]
  where
    past : (c x y : ℕ) → x ≤ y → 0 + c + x ≤ 0 + c + y
    past c x y h = omega arith

    some : (k l : ℕ) → k < l → 0 < l
    some k l h = omega arith

-- the infinity's pattern is that of the first size past the largest
over : (f : Format) → written f (2 ^ (low f + suc (emax f))) ≡ ones f * hid f
unfolding size
over binary32 = refl
over binary64 = refl

-- ---- patterns of values

pub bits_mono : (f : Format) (x y : Float) → T (fits f x) → T (unsigned x) → T (unsigned y) → le x y ≡ true → to_bits f x ≤ to_bits f y
unfolding le lt eq to_bits
bits_mono f nan y p a b h = absurd a
bits_mono f (inf true) y p a b h = absurd a
bits_mono f (inf false) nan p a b h = absurd b
bits_mono f (inf false) (inf true) p a b h = absurd b
bits_mono f (inf false) (inf false) p a b h = le_of_eq refl
bits_mono f (inf false) (fin t n d) p a b h = never h
bits_mono f (fin true m e) y p a b h = absurd a
bits_mono f (fin false m e) nan p a b h = absurd b
bits_mono f (fin false m e) (inf true) p a b h = absurd b
bits_mono f (fin false m e) (inf false) p a b h =
    le_trans
    (written_mono f (m * up e * 2 ^ low f / down e) (2 ^ (low f + suc (emax f)))
    (le_of_lt ((div-lt_iff_lt-mul (down_pos e)).1
    (lt_of_lt_of_le (mul-lt-mul_of_pos_right (fits_range f false m e p) (pow_pos (low f)))
    (le_of_eq (mul_right_comm (2 ^ suc (emax f)) (down e) (2 ^ low f) ∙ ap (λ (z : ℕ). z * down e) (mul_comm (2 ^ suc (emax f)) (2 ^ low f) ∙ sym (pow-add 2 (low f) (suc (emax f))))))))))
    (le_of_eq (over f ∙ sym (zero-add (ones f * hid f))))
bits_mono f (fin false m e) (fin true n d) p a b h = absurd b
bits_mono f (fin false m e) (fin false n d) p a b h =
    let l = 2 ^ low f in
    written_mono f (m * up e * l / down e) (n * up d * l / down d)
    (div_mono (m * up e * l) (down e) (n * up d * l) (down d) (down_pos e) (down_pos d)
    (le_trans (le_of_eq (mul_right_comm (m * up e) l (down d)))
    (le_trans (mul-le-mul_right l (le_of false (m * up e * down d) false (n * up d * down e) h)) (le_of_eq (mul_right_comm (n * up d) (down e) l)))))

module _ (f : Format) (x y : Float) (p : T (fits f x)) (q : T (fits f y)) (a : T (unsigned x)) (b : T (unsigned y)) where
  pub bits_lt : lt x y ≡ true → to_bits f x < to_bits f y
  bits_lt h = elim (eq-or-lt_of_le (bits_mono f x y p a b (lt_to_le x y h))) [
    | inl e ↦
        let same : x ≡ y = sym (of_bits-to_bits f x p) ∙ ap (of_bits f) e ∙ of_bits-to_bits f y q in
        absurd (true≢false (sym h ∙ ap (λ (z : Float). lt x z) (sym same) ∙ lt_irrefl x))
    | inr l ↦ l
  ]

pub bits_le : (f : Format) (x y : Float) → T (fits f x) → T (fits f y) → T (unsigned x) → T (unsigned y) → to_bits f x ≤ to_bits f y → le x y ≡ true
bits_le f x y p q a b h =
    by_cases (lt y x) (λ e. absurd (not-le_of_lt (bits_lt f y x q p b a e) h)) (λ e. not_lt_le x y (number x a) (number y b) e)

-- ---- neighbours

-- hi is the next value after lo, and x is any value: below hi is at most lo
pub none_between : (f : Format) (lo hi x : Float) → T (fits f lo) → T (fits f hi) → T (fits f x) → T (unsigned lo) → to_bits f hi ≡ to_bits f lo + 1 → lt x hi ≡ true → le x lo ≡ true
none_between f lo hi x p q r a e h =
    by_cases (unsigned x)
    (λ u. let u' : T (unsigned x) = subst T (sym u) tt in
    let v : T (unsigned hi) = sign_up x hi u' h in
    let k = bits_lt f x hi r q u' v h in
    bits_le f x lo r p u' a (omega arith))
    (λ u. signed_under x lo (lt_numbers x hi h).0 (subst (λ (z : Bool). T (not z)) (sym u) tt) a)
