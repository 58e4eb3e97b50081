-- What the proofs of `abs`, `is_finite`, `total_cmp` and the root cite, by cases on the float. Assumes nothing.
use Rattle.std.proofs.Common.{◌≡◌, ℕ, zero, suc, ◌+◌, ◌-◌, ◌*◌, ◌<◌, ◌≤◌, Bool, true, false, cond, not, ◌&&◌, ◌||◌, T, eqb, ltb, ℤ, sym, refl, ap, ◌∙◌, zero-lt-suc, mul-pos, arith, ltb-false, ltb-true, le-ltb, lt-ltb, eq-eqb, eqb-true}
use mathlib.Core.Bool.{beq}
use lib.Ieee.{Float, nan, inf, fin, binary64, up, down, fits, is_nan, neg, lt, eq, of_bits, to_bits}
use lib.Ieee.Bits.{of_bits-to_bits, to_bits-lt}
use lib.Ieee.Fits.{up_pos}
use lib.Ieee.Back.{whole_unique}
use Rattle.loops.proofs.Cases.{by_cases, never, both}
use Rattle.numbers.proofs.WholeLaws.{nought}
use Rattle.numbers.specs.Order.{abs_of, is_finite, rank_of, total_of}
use Rattle.std.specs.declared.cmp.Ordering.TheVariants.{Less, Equal, Greater}

level_true : (a b : ℕ) (t : Bool) → a ≡ b → a ≡ 0 → (eqb a b && (t || eqb a 0)) ≡ true
level_true a b true p q = rw (eq-eqb a b p)
level_true a b false p q = rw (eq-eqb a b p, eq-eqb a 0 q)

-- a zero of either sign equals 0
pub zero_equal : (s : Bool) (e : ℤ) → eq (fin s 0 e) nought ≡ true
unfolding eq
zero_equal s e = level_true (0 * up e * 1) (0 * down e) (beq s false) (flat (up e) (down e)) (none (up e))
  where
    flat : (u d : ℕ) → 0 * u * 1 ≡ 0 * d
    flat u d = omega arith

    none : (u : ℕ) → 0 * u * 1 ≡ 0
    none u = omega arith

-- and nothing else does
pub not_zero : {A : Type 0} (s : Bool) (m : ℕ) (e : ℤ) → eq (fin s (suc m) e) nought ≡ true → A
unfolding eq
not_zero s m e a = absurd (go (suc m * up e) (down e) (mul-pos (zero-lt-suc m) (up_pos e)) (eqb-true (suc m * up e * 1) (0 * down e) (both (eqb (suc m * up e * 1) (0 * down e)) _ a).0))
  where
    go : (n d : ℕ) → 0 < n → n * 1 ≡ 0 * d → ⊥
    go n d h k = omega arith

-- ---- the arms of `abs`
pub abs_zero : (x : Float) → T (fits binary64 x) → eq x nought ≡ true → nought ≡ abs_of x
unfolding abs_of eq fits
abs_zero nan f a = never a
abs_zero (inf s) f a = never a
abs_zero (fin s zero e) f a = whole_unique binary64 nought (fin false 0 e) false 0 tt f (refl, refl) (refl, flat (up e) (down e))
  where
    flat : (u d : ℕ) → 0 * u * 1 ≡ 0 * d
    flat u d = omega arith
abs_zero (fin s (suc m) e) f a = not_zero s m e a

pub abs_below : (x : Float) → lt x nought ≡ true → neg x ≡ abs_of x
unfolding abs_of lt neg
abs_below nan a = never a
abs_below (inf true) a = refl
abs_below (inf false) a = never a
abs_below (fin true m e) a = refl
abs_below (fin false m e) a = absurd (go (m * up e) (down e) (ltb-true (m * up e * 1) (0 * down e) a))
  where
    go : (n d : ℕ) → n * 1 < 0 * d → ⊥
    go n d h = omega arith

pub abs_above : (x : Float) → eq x nought ≡ false → lt x nought ≡ false → x ≡ abs_of x
unfolding abs_of lt
abs_above nan a b = refl
abs_above (inf true) a b = never (sym b)
abs_above (inf false) a b = refl
abs_above (fin true zero e) a b = never (sym a ∙ zero_equal true e)
abs_above (fin true (suc m) e) a b = never (sym b ∙ lt-ltb 0 (suc m * up e * 1 + 0 * down e) (go (suc m * up e) (down e) (mul-pos (zero-lt-suc m) (up_pos e))))
  where
    go : (n d : ℕ) → 0 < n → 0 < n * 1 + 0 * d
    go n d h = omega arith
abs_above (fin false m e) a b = refl

-- ---- the two tests of `is_finite`
pub finite_is : (x : Float) → lt (inf true) x && lt x (inf false) ≡ is_finite x
unfolding is_finite lt
finite_is nan = refl
finite_is (inf true) = refl
finite_is (inf false) = refl
finite_is (fin s m e) = refl

-- what is below something is no NaN
pub no_nan_below : (x y : Float) → lt x y ≡ true → T (not (is_nan x))
unfolding lt is_nan
no_nan_below nan y a = never a
no_nan_below (inf s) y a = tt
no_nan_below (fin s m e) y a = tt

-- ---- the arms of `total_cmp`, from the two ranks
module _ (a b : Float) {p q : ℕ} (P : p ≡ rank_of a) (Q : q ≡ rank_of b) where
  pub total-less : p < q → Less ≡ total_of a b
  unfolding total_of
  total-less h = rw (← P, ← Q, lt-ltb p q h)

  pub total-greater : q < p → Greater ≡ total_of a b
  unfolding total_of
  total-greater h = rw (← P, ← Q, le-ltb p q (omega arith), lt-ltb q p h)

  pub total_equal : q ≤ p → p ≤ q → Equal ≡ total_of a b
  unfolding total_of
  total_equal h k = rw (← P, ← Q, le-ltb p q h, le-ltb q p k)

-- two floats of one rank are the same
pub rank_one : (x y : Float) → T (fits binary64 x) → T (fits binary64 y) → rank_of x ≡ rank_of y → x ≡ y
unfolding rank_of
rank_one x y f g e = sym (of_bits-to_bits binary64 x f) ∙ ap (of_bits binary64) (go (to_bits binary64 x) (to_bits binary64 y) (to_bits-lt binary64 x f) (to_bits-lt binary64 y g) e) ∙ of_bits-to_bits binary64 y g
  where
    go : (a b : ℕ) → a < 18446744073709551616 → b < 18446744073709551616
        → cond (ltb a 9223372036854775808) (a + 9223372036854775808) (18446744073709551615 - a) ≡ cond (ltb b 9223372036854775808) (b + 9223372036854775808) (18446744073709551615 - b) → a ≡ b
    go a b h k e =
        by_cases (ltb a 9223372036854775808)
        (λ p. by_cases (ltb b 9223372036854775808)
        (λ q. let z = rw (p, q) at e in omega arith)
        (λ q. let z = rw (p, q) at e in omega (arith, ltb-true a 9223372036854775808 p, ltb-false b 9223372036854775808 q)))
        (λ p. by_cases (ltb b 9223372036854775808)
        (λ q. let z = rw (p, q) at e in omega (arith, ltb-false a 9223372036854775808 p, ltb-true b 9223372036854775808 q))
        (λ q. let z = rw (p, q) at e in omega arith))
