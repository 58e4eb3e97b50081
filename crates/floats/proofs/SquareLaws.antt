-- A sum of squares is not below 0, or it is a NaN. Assumes nothing.
use mathlib.Core.Path.{◌≡◌, refl}
use mathlib.Core.Bool.{true, false, true≢false}
use lib.Dec.{T}
use lib.Ieee.{Float, nan, inf, fin, Format, add, mul, sum, is_nan}
use Rattle.floats.proofs.SignLaws.{unsigned, round_unsigned}

pub square_unsigned : (f : Format) (x : Float) → is_nan (mul f x x) ≡ false → T (unsigned (mul f x x))
unfolding mul is_nan
square_unsigned f nan h = absurd (true≢false h)
square_unsigned f (inf true) h = tt
square_unsigned f (inf false) h = tt
square_unsigned f (fin true m e) h = round_unsigned f _ _
square_unsigned f (fin false m e) h = round_unsigned f _ _

pub sum_unsigned : (f : Format) (x y : Float) → T (unsigned x) → T (unsigned y) → T (unsigned (add f x y))
unfolding add sum
sum_unsigned f nan y a b = absurd a
sum_unsigned f (inf true) y a b = absurd a
sum_unsigned f (inf false) nan a b = absurd b
sum_unsigned f (inf false) (inf true) a b = absurd b
sum_unsigned f (inf false) (inf false) a b = tt
sum_unsigned f (inf false) (fin t n d) a b = tt
sum_unsigned f (fin true m e) y a b = absurd a
sum_unsigned f (fin false m e) nan a b = absurd b
sum_unsigned f (fin false m e) (inf true) a b = absurd b
sum_unsigned f (fin false m e) (inf false) a b = tt
sum_unsigned f (fin false m e) (fin true n d) a b = absurd b
sum_unsigned f (fin false m e) (fin false n d) a b = round_unsigned f _ _

-- a sum that is no NaN has no NaN in it
pub sum-numbers : (f : Format) (x y : Float) → is_nan (add f x y) ≡ false → (is_nan x ≡ false) × (is_nan y ≡ false)
unfolding add is_nan
sum-numbers f nan y h = absurd (true≢false h)
sum-numbers f (inf s) nan h = absurd (true≢false h)
sum-numbers f (inf s) (inf t) h = (refl, refl)
sum-numbers f (inf s) (fin t n d) h = (refl, refl)
sum-numbers f (fin s m e) nan h = absurd (true≢false h)
sum-numbers f (fin s m e) (inf t) h = (refl, refl)
sum-numbers f (fin s m e) (fin t n d) h = (refl, refl)

pub squares_unsigned : (f : Format) (x y : Float) → is_nan (add f (mul f x x) (mul f y y)) ≡ false → T (unsigned (add f (mul f x x) (mul f y y)))
squares_unsigned f x y h =
    let n = sum-numbers f (mul f x x) (mul f y y) h in
    sum_unsigned f (mul f x x) (mul f y y) (square_unsigned f x n.0) (square_unsigned f y n.1)
