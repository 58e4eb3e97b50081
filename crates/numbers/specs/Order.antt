-- Rust's `max`, `min`, `clamp`, `abs`, `is_finite` and `total_cmp` of an `f64`. Definitions only.
use Rattle.std.specs.Prelude.{ℕ, ◌+◌, ◌-◌, ◌^◌, Bool, true, false, cond, is_nan, nat_lt, to_bits, Float}
use Rattle.std.specs.Float.{nan, inf, fin, binary64}
use Rattle.std.specs.Float.Ieee.{lt}
use Rattle.std.specs.declared.cmp.Ordering.{Ordering}
use Rattle.std.specs.declared.cmp.Ordering.TheVariants.{Less, Equal, Greater}

-- The larger of two, and of a NaN and a number the number. Where the two are equal, as -0.0 and 0.0 are, Rust leaves open which it is: here it is a.
unfoldable pub max_of : Float → Float → Float
max_of a b = cond (lt a b) b (cond (is_nan a) b a)

-- the smaller of two, in the same way
unfoldable pub min_of : Float → Float → Float
min_of a b = cond (lt b a) b (cond (is_nan a) b a)

-- x brought up to lo, then down to hi
unfoldable pub clamp_of : Float → Float → Float → Float
clamp_of x lo hi = let y = cond (lt x lo) lo x in cond (lt hi y) hi y

unfoldable pub abs_of : Float → Float
abs_of nan = nan
abs_of (inf s) = inf false
abs_of (fin s m e) = fin false m e

unfoldable pub is_finite : Float → Bool
is_finite nan = false
is_finite (inf s) = false
is_finite (fin s m e) = true

-- The place in the total order: the bit pattern, counted down from the middle where the sign is set and up from it where it is not.
-- So -0.0 stands before 0.0, and the one NaN, whose sign is clear, after infinity.
unfoldable pub rank_of : Float → ℕ
rank_of x = cond (nat_lt (to_bits binary64 x) (2 ^ 63)) (to_bits binary64 x + 2 ^ 63) (2 ^ 64 - 1 - to_bits binary64 x)

unfoldable pub total_of : Float → Float → Ordering
total_of a b = cond (nat_lt (rank_of a) (rank_of b)) Less (cond (nat_lt (rank_of b) (rank_of a)) Greater Equal)
