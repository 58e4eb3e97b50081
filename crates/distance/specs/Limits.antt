-- Tests of a distance against a bound: the distance, or its length at a scale, at most x or below x. The root is monotone, so each is a test of the square.
use Rattle.std.specs.Prelude.{◌≡◌, Bool, true, false, cond, ℕ, ◌-◌, ◌≤◌, ◌<◌, T, ltb, Float, Option, Some, None}
use Rattle.std.specs.Float.{binary64}
use Rattle.std.specs.Float.Ieee.{mul, lt, le, is_nan}
use Rattle.std.specs.Float.Ieee.Positive.{positive}
use Rattle.distance.specs.Least.{far}
use Rattle.distance.specs.Rooted.{rooted_of}
use Rattle.distance.specs.declared.limits.Threshold.{Threshold}

unfoldable pub scaled_of : Option Float → ℕ → Float
scaled_of (Some scale) d = mul binary64 (rooted_of d) scale
scaled_of None d = rooted_of d

unfoldable pub passes_of : Threshold → ℕ → Bool
passes_of b d = cond b.strict (lt (scaled_of b.scale d) b.x) (le (scaled_of b.scale d) b.x)

-- n is the first square that fails a test
pub record Splits (passes : ℕ → Bool) (n : ℕ) : Type 0 where
  pub fails : passes n ≡ false
  pub before : 0 < n → passes (n - 1) ≡ true

-- a limit that is told: exactly the squares below it pass
pub record LimitOf (b : Threshold) (below : ℕ) : Type 0 where
  pub squares : (d : ℕ) → d ≤ far → passes_of b d ≡ ltb d below
  pub number : is_nan b.x ≡ false
  pub lengths : (d : ℕ) → is_nan (scaled_of b.scale d) ≡ false

-- x is a number, and a scale, if there is one, is finite and above zero: then lengths have the order of the squares
pub record Ordered (b : Threshold) : Type 0 where
  pub scale_up : (scale : Float) → b.scale ≡ Some scale → T (positive scale)
  pub number : is_nan b.x ≡ false
