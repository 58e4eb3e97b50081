-- A float test of what grows with a whole number is a test of the number: where r lies between the values at n and at n + 1. Assumes nothing.
use mathlib.Core.Path.{◌≡◌, sym, ◌∙◌}
use mathlib.Core.Bool.{true, false}
use Prim.Native.Nat.{ℕ, ◌+◌, ◌≤◌}
use native.Mathlib.Omega.{arith}
use lib.Dec.{leb}
use lib.Ieee.{Float, lt, le}
use borrow.Author.Tests.{leb-true, leb-false}
use Rattle.loops.proofs.Cases.{by_cases}
use Rattle.floats.proofs.OrderLaws.{le_lt, le_le, lt_le, le_not_lt, lt_not_le}

module _ (g : ℕ → Float) (mono : (i j : ℕ) → i ≤ j → le (g i) (g j) ≡ true) (n k : ℕ) (r : Float) where
  after : leb k n ≡ false → n + 1 ≤ k
  after e = let h = leb-false k n e in omega arith

  pub at-most-to : le (g n) r ≡ true → lt r (g (n + 1)) ≡ true → le (g k) r ≡ leb k n
  at-most-to a b =
      by_cases (leb k n) (λ e. le_le (g k) (g n) r (mono k n (leb-true k n e)) a ∙ sym e)
      (λ e. lt_not_le r (g k) (lt_le r (g (n + 1)) (g k) b (mono (n + 1) k (after e))) ∙ sym e)

  pub below-to : lt (g n) r ≡ true → le r (g (n + 1)) ≡ true → lt (g k) r ≡ leb k n
  below-to a b =
      by_cases (leb k n) (λ e. le_lt (g k) (g n) r (mono k n (leb-true k n e)) a ∙ sym e)
      (λ e. le_not_lt r (g k) (le_le r (g (n + 1)) (g k) b (mono (n + 1) k (after e))) ∙ sym e)
