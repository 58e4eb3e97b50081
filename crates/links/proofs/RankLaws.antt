-- A float below another one comes first in the total order too: one comparison of floats tells what two ranks would. Assumes nothing.
use mathlib.Core.Path.{◌≡◌, refl, sym, ap, ◌∙◌, subst}
use mathlib.Core.Bool.{Bool, true, false, cond}
use Prim.Native.Nat.{ℕ, zero, suc, ◌+◌, ◌-◌, ◌<◌}
use native.Mathlib.Omega.{arith}
use lib.Dec.{T, ltb}
use lib.Ieee.{Float, nan, inf, fin, binary64, fits, is_nan, neg, lt, le, to_bits}
use lib.Ieee.Bits.{to_bits-lt}
use borrow.Author.Tests.{lt-ltb, le-ltb}
use Rattle.loops.proofs.Cases.{by_cases, never}
use Rattle.floats.proofs.SignLaws.{unsigned, sign_up, neg_neg, neg_number, neg_le}
use Rattle.floats.proofs.OrderLaws.{lt_numbers, lt_not_le, not_le_lt}
use Rattle.floats.proofs.NextLaws.{bits_lt}
use Rattle.numbers.specs.Order.{rank_of}

pub told : {b : Bool} → b ≡ true → T b
told e = subst T (sym e) tt

fits_neg : (x : Float) → T (fits binary64 x) → T (fits binary64 (neg x))
unfolding fits neg
fits_neg nan h = h
fits_neg (inf s) h = h
fits_neg (fin s zero e) h = h
fits_neg (fin s (suc m) e) h = h

unsigned_neg : (x : Float) → is_nan x ≡ false → unsigned x ≡ false → T (unsigned (neg x))
unfolding neg is_nan
unsigned_neg nan h k = never (sym h)
unsigned_neg (inf true) h k = tt
unsigned_neg (inf false) h k = never (sym k)
unsigned_neg (fin true m e) h k = tt
unsigned_neg (fin false m e) h k = never (sym k)

neg_lt : (x y : Float) → lt x y ≡ true → lt (neg y) (neg x) ≡ true
neg_lt x y h =
    let n = lt_numbers x y h in
    not_le_lt (neg y) (neg x) (neg_number y ∙ n.1) (neg_number x ∙ n.0)
    (by_cases (le (neg x) (neg y))
    (λ e. never (sym (lt_not_le x y h) ∙ (let z = neg_le (neg x) (neg y) e in rw (neg_neg y, neg_neg x) at z)))
    (λ e. e))

-- the sign is the top bit
bits_neg : (x : Float) → T (unsigned x) → to_bits binary64 (neg x) ≡ 9223372036854775808 + to_bits binary64 x
unfolding to_bits neg
bits_neg nan u = absurd u
bits_neg (inf true) u = absurd u
bits_neg (inf false) u = refl
bits_neg (fin true m e) u = absurd u
bits_neg (fin false m e) u = go _ _
  where
    go : (a b : ℕ) → 9223372036854775808 + a + b ≡ 9223372036854775808 + (0 + a + b)
    go a b = omega arith

bits_low : (x : Float) → T (fits binary64 x) → T (unsigned x) → to_bits binary64 x < 9223372036854775808
bits_low x p u = go (to_bits binary64 x) (to_bits binary64 (neg x)) (bits_neg x u) (to_bits-lt binary64 (neg x) (fits_neg x p))
  where
    go : (a b : ℕ) → b ≡ 9223372036854775808 + a → b < 18446744073709551616 → a < 9223372036854775808
    go a b e h = omega arith

-- the ranks of the two signs
rank_up : (x : Float) → T (fits binary64 x) → T (unsigned x) → rank_of x ≡ to_bits binary64 x + 9223372036854775808
unfolding rank_of
rank_up x p u = rw (lt-ltb (to_bits binary64 x) 9223372036854775808 (bits_low x p u))

rank_down : (x : Float) → T (fits binary64 x) → T (unsigned x) → rank_of (neg x) ≡ 9223372036854775807 - to_bits binary64 x
unfolding rank_of
rank_down x p u = go (to_bits binary64 x) (to_bits binary64 (neg x)) (bits_neg x u)
  where
    go : (a b : ℕ) → b ≡ 9223372036854775808 + a → cond (ltb b 9223372036854775808) (b + 9223372036854775808) (18446744073709551615 - b) ≡ 9223372036854775807 - a
    go a b e = rw (le-ltb b 9223372036854775808 (omega arith)) (omega arith)

pub rank_lt : (x y : Float) → T (fits binary64 x) → T (fits binary64 y) → lt x y ≡ true → rank_of x < rank_of y
rank_lt x y p q h =
    by_cases (unsigned x)
    (λ u. let v = sign_up x y (told u) h in ups (told u) v)
    (λ u. by_cases (unsigned y) (λ v. across (unsigned_neg x n.0 u) (told v)) (λ v. downs (unsigned_neg x n.0 u) (unsigned_neg y n.1 v)))
  where
    n : (is_nan x ≡ false) × (is_nan y ≡ false)
    n = lt_numbers x y h

    ups : T (unsigned x) → T (unsigned y) → rank_of x < rank_of y
    ups u v = omega (arith, rank_up x p u, rank_up y q v, bits_lt binary64 x y p q u v h)

    down : (z : Float) → T (fits binary64 z) → T (unsigned (neg z)) → rank_of z ≡ 9223372036854775807 - to_bits binary64 (neg z)
    down z r u = ap rank_of (sym (neg_neg z)) ∙ rank_down (neg z) (fits_neg z r) u

    across : T (unsigned (neg x)) → T (unsigned y) → rank_of x < rank_of y
    across u v = omega (arith, down x p u, rank_up y q v)

    downs : T (unsigned (neg x)) → T (unsigned (neg y)) → rank_of x < rank_of y
    downs u v = omega (arith, down x p u, down y q v, bits_low (neg x) (fits_neg x p) u, bits_lt binary64 (neg y) (neg x) (fits_neg y q) (fits_neg x p) v u (neg_lt x y h))
