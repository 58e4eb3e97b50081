-- Where a result is no NaN: of finite operands, and of a quotient by what is not zero. It may still be an infinity. Assumes nothing.
use mathlib.Core.Path.{◌≡◌, refl, sym, ap, ◌∙◌, subst}
use mathlib.Core.Bool.{Bool, true, false, ◌&&◌, beq, cond}
use Prim.Native.Nat.{ℕ, zero, suc, ◌+◌, ◌-◌, ◌*◌}
use lib.Dec.{T, ltb, eqb, eqb-suc-zero}
use lib.Ieee.{Float, nan, inf, fin, Format, up, down, unlike, round, sum, add, mul, div, neg, is_nan}
use lib.Ieee.Scale.{finite}
use lib.Ieee.Positive.{positive}
use Rattle.loops.proofs.Cases.{by_test}
use Rattle.floats.proofs.SignLaws.{neg_number, number, round_unsigned, round_neg}

pub round_number : (f : Format) (s : Bool) (a c : ℕ) → is_nan (round f s a c) ≡ false
round_number f true a c = ap is_nan (round_neg f a c) ∙ neg_number (round f false a c) ∙ number (round f false a c) (round_unsigned f a c)
round_number f false a c = number (round f false a c) (round_unsigned f a c)

sum_number : (f : Format) (s : Bool) (a : ℕ) (t : Bool) (b c : ℕ) → is_nan (sum f s a t b c) ≡ false
unfolding sum
sum_number f s a t b c =
    by_test (λ (z : Float). is_nan z ≡ false) (beq s t) (round f s (a + b) c) _ (λ e. round_number f s (a + b) c)
    (λ e. by_test (λ (z : Float). is_nan z ≡ false) (ltb a b) (round f t (b - a) c) (round f (s && ltb b a) (a - b) c) (λ k. round_number f t (b - a) c) (λ k. round_number f (s && ltb b a) (a - b) c))

pub add_number : (f : Format) (x y : Float) → T (finite x) → T (finite y) → is_nan (add f x y) ≡ false
unfolding add
add_number f nan y a b = absurd a
add_number f (inf s) y a b = absurd a
add_number f (fin s m e) nan a b = absurd b
add_number f (fin s m e) (inf t) a b = absurd b
add_number f (fin s m e) (fin t n d) a b = sum_number f s (m * up e * down d) t (n * up d * down e) (down e * down d)

neg_finite : (x : Float) → T (finite x) → T (finite (neg x))
unfolding neg
neg_finite nan a = a
neg_finite (inf s) a = a
neg_finite (fin s m e) a = tt

pub mul_number : (f : Format) (x y : Float) → T (finite x) → T (finite y) → is_nan (mul f x y) ≡ false
unfolding mul
mul_number f nan y a b = absurd a
mul_number f (inf s) y a b = absurd a
mul_number f (fin s m e) nan a b = absurd b
mul_number f (fin s m e) (inf t) a b = absurd b
mul_number f (fin s m e) (fin t n d) a b = round_number f (unlike s t) (m * up e * (n * up d)) (down e * down d)

-- not a zero, and no NaN
abbrev pub nonzero : Float → Bool
nonzero nan = false
nonzero (inf s) = true
nonzero (fin s zero e) = false
nonzero (fin s (suc m) e) = true

pub positive_nonzero : (x : Float) → T (positive x) → T (nonzero x)
positive_nonzero nan a = a
positive_nonzero (inf s) a = tt
positive_nonzero (fin true m e) a = absurd a
positive_nonzero (fin false zero e) a = a
positive_nonzero (fin false (suc m) e) a = tt

-- a number times a finite one that is not zero
pub scale_number : (f : Format) (x y : Float) → is_nan x ≡ false → T (finite y) → T (nonzero y) → is_nan (mul f x y) ≡ false
unfolding mul is_nan
scale_number f nan y a b c = a
scale_number f (inf s) nan a b c = absurd b
scale_number f (inf s) (inf t) a b c = absurd b
scale_number f (inf s) (fin t zero d) a b c = absurd c
scale_number f (inf s) (fin t (suc n) d) a b c = subst (λ (z : Bool). is_nan (cond z nan (inf (unlike s t))) ≡ false) (sym (eqb-suc-zero n)) refl
scale_number f (fin s m e) y a b c = mul_number f (fin s m e) y tt b

pub div_number : (f : Format) (x y : Float) → T (finite x) → T (nonzero y) → is_nan (div f x y) ≡ false
unfolding div is_nan
div_number f nan y a b = absurd a
div_number f (inf s) y a b = absurd a
div_number f (fin s m e) nan a b = absurd b
div_number f (fin s m e) (inf t) a b = refl
div_number f (fin s m e) (fin t zero d) a b = absurd b
div_number f (fin s m e) (fin t (suc n) d) a b =
    subst (λ (z : Bool). is_nan (cond z (cond (eqb m 0) nan (inf (unlike s t))) (round f (unlike s t) (m * up e * down d) (suc n * up d * down e))) ≡ false) (sym (eqb-suc-zero n))
    (round_number f (unlike s t) (m * up e * down d) (suc n * up d * down e))
