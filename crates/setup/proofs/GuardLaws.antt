-- The guard of a limit, max (half the limit, min (0.95 limit, y)), for every y, a NaN too: it is below the limit and above zero, and 0.85 of it is at most it.
-- Assumes nothing.
use mathlib.Core.Path.{◌≡◌, ap, subst}
use mathlib.Core.Bool.{true, false}
use Prim.Native.Nat.{ℕ, ◌*◌, ◌^◌, ◌≤◌}
use native.Mathlib.Nat.{one-mul}
use native.Mathlib.Omega.{arith}
use lib.Dec.{T, lit≤}
use lib.Ieee.{Float, fin, binary64, of_bits, mul, lt, le, fits}
use lib.Ieee.Fits.{mul-fits}
use lib.Ieee.Positive.{num, den, positive}
use lib.IntN.{pos}
use Rattle.floats.proofs.OrderLaws.{lt_le, lt_numbers}
use Rattle.floats.proofs.SignLaws.{sign_up}
use Rattle.floats.proofs.SwapLaws.{mul_swap}
use Rattle.floats.proofs.ShareLaws.{Normal, share_le, share_lt, share_lt_right, share_above}
use Rattle.numbers.specs.Order.{min_of}
use Rattle.numbers.specs.Small.{half}
use Rattle.numbers.proofs.WholeLaws.{nought}
use Rattle.numbers.proofs.MaxLaws.{max_lt, min_lt_left, max_ge_left, max_fits, min_fits}
use Rattle.setup.specs.Limits.{c95, c85, guard_by}

module _ (x : Float) (X : T (positive x)) (F : T (fits binary64 x)) (N : Normal binary64 x) where
  lt_95 : lt (mul binary64 c95 x) x ≡ true
  unfolding of_bits
  lt_95 = share_lt binary64 c95 tt (lit≤ tt) x X F N

  lt_half : lt (mul binary64 x half) x ≡ true
  unfolding of_bits
  lt_half = share_lt_right binary64 half tt (lit≤ tt) x X F N

  half-above : lt (fin false 0 (pos 0)) (mul binary64 half x) ≡ true
  unfolding of_bits
  half-above = share_above binary64 half x tt X (doubled (den x) (num x * 2 ^ 1074) (1 * 1 * num x * 2 ^ 1074) N (ap (λ (z : ℕ). z * 2 ^ 1074) (one-mul (num x))))
    where
      doubled : (d n k : ℕ) → 4503599627370496 * d ≤ n → k ≡ n → 2 * d ≤ k
      doubled d n k h e = omega arith

module _ (limit y : Float) (X : T (positive limit)) (F : T (fits binary64 limit)) (N : Normal binary64 limit) where
  pub guard_lt : lt (guard_by limit y) limit ≡ true
  guard_lt = max_lt (mul binary64 limit half) _ limit (lt_half limit X F N) (min_lt_left (mul binary64 c95 limit) y limit (lt_95 limit X F N))

  pub guard-above : lt nought (guard_by limit y) ≡ true
  guard-above =
      let h : lt nought (mul binary64 limit half) ≡ true = subst (λ (z : Float). lt nought z ≡ true) (mul_swap binary64 half limit) (half-above limit X F N) in
      lt_le nought (mul binary64 limit half) (guard_by limit y) h (max_ge_left (mul binary64 limit half) (min_of (mul binary64 c95 limit) y) (lt_numbers nought (mul binary64 limit half) h).1)

pub guard-fits : (limit y : Float) → T (fits binary64 y) → T (fits binary64 (guard_by limit y))
guard-fits limit y F =
    max_fits (mul binary64 limit half) (min_of (mul binary64 c95 limit) y) (mul-fits binary64 limit half) (min_fits (mul binary64 c95 limit) y (mul-fits binary64 c95 limit) F)

-- the target, 0.85 of a guard g, is at most it
pub target_le : (g : Float) → lt nought g ≡ true → T (fits binary64 g) → le (mul binary64 c85 g) g ≡ true
unfolding of_bits
target_le g G F = share_le binary64 c85 g tt (lit≤ tt) F (sign_up nought g tt G)
