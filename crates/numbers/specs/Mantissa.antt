-- How root and narrowing work inside: a positive float as a mantissa and an exponent, and what a step of the root promises. Definitions only.
use Rattle.std.specs.Prelude.{◌≡◌, ℕ, ◌+◌, ◌-◌, ◌*◌, ◌^◌, ◌<◌, ◌≤◌, T, Float}
use Rattle.std.specs.Float.Ieee.Positive.{num, den, positive}
use Rattle.numbers.specs.Root.{root_of}

-- x is m * 2 ^ (e - 1126), with m of 53 binary digits
pub record Normal (x : Float) (m e : ℕ) : Type 0 where
  pub lo : 2 ^ 52 ≤ m
  pub hi : m < 2 ^ 53
  pub few : e < 2200
  pub val : num x * 2 ^ 1126 ≡ m * 2 ^ e * den x

-- q * 2 ^ j is m * 2 ^ (e - 52), with m of 53 binary digits
pub record Shifted (q j m e : ℕ) : Type 0 where
  pub lo : 2 ^ 52 ≤ m
  pub hi : m < 2 ^ 53
  pub few : e ≤ j + 52
  pub val : q * 2 ^ j * 2 ^ 52 ≡ m * 2 ^ e

-- q is the whole number that is nearest to half the root of n: the root lies between 2 * q - 1 and 2 * q + 1
pub record NearRoot (n q : ℕ) : Type 0 where
  pub lo : (2 * q - 1) * (2 * q - 1) ≤ n
  pub hi : n < (2 * q + 1) * (2 * q + 1)

-- m has 53 binary digits, and m * 2 ^ (e - 1126) is in the range of an `f64`
pub record Digits (m e : ℕ) : Type 0 where
  pub lo : 2 ^ 52 ≤ m
  pub hi : m < 2 ^ 53
  pub few : e < 2200

-- r is the root of the float that is m * 2 ^ (e - 1126)
pub record RootFrom (m e : ℕ) (r : Float) : Type 0 where
  pub is : (x : Float) → T (positive x) → Normal x m e → r ≡ root_of x
