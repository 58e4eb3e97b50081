-- The guard is below the limit and the target at most the guard, for every engagement that questions 2 and 12 accept. And the arms of `samples_of`.
-- Assumes nothing.
use mathlib.Core.Path.{◌≡◌, refl, ap, ◌∙◌}
use mathlib.Core.Bool.{true, false}
use Prim.Native.Nat.{ℕ, min, max}
use native.Mathlib.Omega.{arith}
use lib.Dec.{T}
use lib.Ieee.{Float, nan, inf, fin, binary64, of_bits, mul, div, lt, le, eq, is_nan, fits, to_unsigned}
use lib.Ieee.Fits.{mul-fits, sub-fits}
use lib.Ieee.Positive.{positive}
use lib.Ieee.Scale.{finite}
use Rattle.loops.proofs.Cases.{never}
use Rattle.floats.proofs.OrderLaws.{le_lt, le_le, lt_to_le}
use Rattle.floats.proofs.MulMono.{mul_mono}
use Rattle.floats.proofs.NumberLaws.{mul_number}
use Rattle.floats.proofs.ShareLaws.{Normal, normal_of, normal_positive}
use Rattle.numbers.specs.Circle.{pi, radians_of}
use Rattle.numbers.specs.Whole.{ceil_of}
use Rattle.numbers.specs.Small.{f1, f4, f180}
use Rattle.setup.specs.Limits.{guard_of, target_of, samples_for}
use Rattle.setup.proofs.GuardLaws.{guard_lt, guard-above, guard-fits, target_le}

-- ---- how many samples

module _ (r cell x : Float) (n : ℕ) (X : x ≡ ceil_of (div binary64 (mul binary64 (mul binary64 f4 pi) r) cell)) (N : n ≡ to_unsigned 64 x) where
  few : (m : ℕ) → m ≡ min (max n 64) 2048 → m ≡ samples_for r cell
  unfolding samples_for
  few m e = e ∙ ap (λ (k : ℕ). min (max k 64) 2048) (N ∙ ap (to_unsigned 64) X)

  pub samples-is : (m : ℕ) → m ≡ max 64 (min n 2048) → m ≡ samples_for r cell
  samples-is m e = few m (omega arith)

-- ---- the limit of an engagement of 1 to 180 degrees, in radians

abbrev factor : Float
factor = div binary64 pi f180

finite_between : (x : Float) → le f1 x ≡ true → lt x f180 ≡ true → T (finite x)
unfolding of_bits le lt eq
finite_between nan a b = never a
finite_between (inf true) a b = never a
finite_between (inf false) a b = never b
finite_between (fin s m e) a b = tt

module _ (deg : Float) (low : le f1 deg ≡ true) (high : lt deg f180 ≡ true) where
  limit-low : le (of_bits binary64 0x10_0000_0000_0000) (radians_of deg) ≡ true
  unfolding radians_of of_bits div mul le lt eq is_nan
  limit-low = le_le (of_bits binary64 0x10_0000_0000_0000) (mul binary64 f1 factor) (mul binary64 deg factor) refl (mul_mono binary64 f1 deg factor refl low refl (mul_number binary64 deg factor (finite_between deg low high) tt))

  limit-high : lt (radians_of deg) (inf false) ≡ true
  unfolding radians_of of_bits div mul le lt eq is_nan
  limit-high = le_lt (mul binary64 deg factor) (mul binary64 f180 factor) (inf false) (mul_mono binary64 deg f180 factor refl (lt_to_le deg f180 high) (mul_number binary64 deg factor (finite_between deg low high) tt) refl) refl

  limit-positive : T (positive (radians_of deg))
  limit-positive = normal_positive (radians_of deg) binary64 limit-low limit-high

  limit_normal : Normal binary64 (radians_of deg)
  limit_normal = normal_of (radians_of deg) binary64 limit-positive limit-low

  limit-fits : T (fits binary64 (radians_of deg))
  unfolding radians_of
  limit-fits = mul-fits binary64 deg factor

  module _ (cell r : Float) where
    -- every contact at most the guard is below the limit
    pub guard-below : lt (guard_of (radians_of deg) cell r) (radians_of deg) ≡ true
    unfolding guard_of
    guard-below = guard_lt (radians_of deg) _ limit-positive limit-fits limit_normal

    pub target_at_most : le (target_of (guard_of (radians_of deg) cell r)) (guard_of (radians_of deg) cell r) ≡ true
    unfolding target_of guard_of
    target_at_most = target_le _ (guard-above (radians_of deg) _ limit-positive limit-fits limit_normal) (guard-fits (radians_of deg) _ (sub-fits binary64 (radians_of deg) _))
