-- Arithmetic that gives a number was given numbers, and a number equals itself. Assumes nothing.
use mathlib.Core.Path.{◌≡◌, refl, sym, ◌∙◌}
use mathlib.Core.Bool.{true, false}
use lib.Ieee.{Float, Format, nan, inf, fin, add, sub, mul, neg, eq, is_nan}
use Rattle.floats.proofs.OrderLaws.{le_refl, le_antisym}
use Rattle.floats.proofs.SignLaws.{neg_number}

pub add_numbers : (f : Format) (x y : Float) → is_nan (add f x y) ≡ false → (is_nan x ≡ false) × (is_nan y ≡ false)
unfolding add is_nan
add_numbers f nan y e = absurd (mathlib.Core.Bool.true≢false e)
add_numbers f (inf s) nan e = absurd (mathlib.Core.Bool.true≢false e)
add_numbers f (inf s) (inf t) e = (refl, refl)
add_numbers f (inf s) (fin t n d) e = (refl, refl)
add_numbers f (fin s m b) nan e = absurd (mathlib.Core.Bool.true≢false e)
add_numbers f (fin s m b) (inf t) e = (refl, refl)
add_numbers f (fin s m b) (fin t n d) e = (refl, refl)

pub sub_numbers : (f : Format) (x y : Float) → is_nan (sub f x y) ≡ false → (is_nan x ≡ false) × (is_nan y ≡ false)
unfolding sub
sub_numbers f x y e = let p = add_numbers f x (neg y) e in (p.0, sym (neg_number y) ∙ p.1)

pub square-number : (f : Format) (x : Float) → is_nan (mul f x x) ≡ false → is_nan x ≡ false
unfolding mul is_nan
square-number f nan e = e
square-number f (inf s) e = refl
square-number f (fin s m b) e = refl

pub eq_self : (x : Float) → is_nan x ≡ false → eq x x ≡ true
eq_self x e = le_antisym x x (le_refl x e) (le_refl x e)
