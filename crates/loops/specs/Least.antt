-- The least of the first n numbers in an order of what they stand for, the first on a tie: `(0..n).min_by(..)`. An order `before` says of x and y whether
-- x comes before y. Definitions only.
use Rattle.std.specs.Prelude.{ℕ, Bool, true, false, cond}
use Rattle.loops.specs.Loop.{loop}

-- by one order, and where that leaves two equal by another: `then`
unfoldable pub then_by : {K : Type 0} → (K → K → Bool) → (K → K → Bool) → K → K → Bool
then_by first second x y = cond (first x y) true (cond (first y x) false (second x y))

module _ {K : Type 0} (before : K → K → Bool) (key : ℕ → K) where
  -- number k after those before it, of which b is the least
  unfoldable pub least_step : ℕ → ℕ → ℕ
  least_step k b = cond (before (key k) (key b)) k b

  unfoldable pub least_by : ℕ → ℕ
  least_by n = loop least_step 1 n 0
