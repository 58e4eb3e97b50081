-- The answers of `numbers`, by a function's number and the patterns of its arguments, the last one c. Definitions only.
use Rattle.std.specs.Prelude.{ℕ, Bool, cond, ◌==◌, from_bits, to_bits, Float}
use Rattle.std.specs.Float.{binary32, binary64}
use Rattle.std.specs.Float.Ieee.{to_unsigned}
use Rattle.numbers.specs.Order.{max_of, min_of, clamp_of, abs_of, is_finite, total_of}
use Rattle.numbers.specs.Whole.{floor_of, ceil_of, round_of}
use Rattle.numbers.specs.Narrow.{narrow_of}
use Rattle.numbers.specs.Root.{root_of}
use Rattle.numbers.specs.Circle.{cos_of, sin_of, radians_of, degrees_of}
use Rattle.std.specs.declared.cmp.Ordering.{Ordering}
use Rattle.std.specs.declared.cmp.Ordering.TheVariants.{Less, Equal, Greater}

unfoldable pub flag_of : Bool → ℕ
flag_of b = cond b 1 0

unfoldable pub sign_of : Ordering → ℕ
sign_of Less = 0
sign_of Equal = 1
sign_of Greater = 2

unfoldable pub float_of_one : ℕ → Float → Float
float_of_one f x =
    cond (f == 5) (abs_of x)
    (cond (f == 7) (floor_of x)
    (cond (f == 8) (ceil_of x)
    (cond (f == 9) (round_of x)
    (cond (f == 11) (root_of x)
    (cond (f == 12) (cos_of x)
    (cond (f == 13) (sin_of x)
    (cond (f == 14) (radians_of x)
    (degrees_of x))))))))

unfoldable pub one_of : ℕ → Float → ℕ
one_of f x =
    cond (f == 0) (to_unsigned 64 x)
    (cond (f == 1) (to_unsigned 32 x)
    (cond (f == 6) (flag_of (is_finite x))
    (cond (f == 10) (to_bits binary32 (narrow_of x))
    (to_bits binary64 (float_of_one f x)))))

abbrev read : ℕ → Float
read b = from_bits binary64 b

unfoldable pub answer_of : ℕ → ℕ → ℕ → ℕ → ℕ
answer_of f a b c =
    cond (f == 2) (to_bits binary64 (max_of (read b) (read c)))
    (cond (f == 3) (to_bits binary64 (min_of (read b) (read c)))
    (cond (f == 4) (to_bits binary64 (clamp_of (read a) (read b) (read c)))
    (cond (f == 16) (sign_of (total_of (read b) (read c)))
    (one_of f (read c)))))
