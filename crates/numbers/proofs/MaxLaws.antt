-- The larger and the smaller of two floats against a bound. Assumes nothing.
use Rattle.std.proofs.Common.{◌≡◌, true, false, cond, T, sym, ◌∙◌}
use lib.Ieee.{Float, binary64, lt, le, is_nan, fits}
use lib.Ieee.Fits.{cond-fits}
use Rattle.loops.proofs.Cases.{by_test, never}
use Rattle.floats.proofs.OrderLaws.{le_refl, le_lt, lt_numbers, lt_to_le, not_lt_le}
use Rattle.numbers.specs.Order.{max_of, min_of}

module _ (a b l : Float) where
  pub max_lt : lt a l ≡ true → lt b l ≡ true → lt (max_of a b) l ≡ true
  unfolding max_of
  max_lt h k = by_test (λ (z : Float). lt z l ≡ true) (lt a b) b _ (λ e. k) (λ e. by_test (λ (z : Float). lt z l ≡ true) (is_nan a) b a (λ g. k) (λ g. h))

  pub min_lt_left : lt a l ≡ true → lt (min_of a b) l ≡ true
  unfolding min_of
  min_lt_left h =
      by_test (λ (z : Float). lt z l ≡ true) (lt b a) b _ (λ e. le_lt b a l (lt_to_le b a e) h)
      (λ e. by_test (λ (z : Float). lt z l ≡ true) (is_nan a) b a (λ g. never (sym (lt_numbers a l h).0 ∙ g)) (λ g. h))

module _ (a b : Float) where
  pub max_ge_left : is_nan a ≡ false → le a (max_of a b) ≡ true
  unfolding max_of
  max_ge_left n =
      by_test (λ (z : Float). le a z ≡ true) (lt a b) b _ (λ e. lt_to_le a b e)
      (λ e. by_test (λ (z : Float). le a z ≡ true) (is_nan a) b a (λ g. never (sym n ∙ g)) (λ g. le_refl a n))

  pub max_ge_right : is_nan b ≡ false → le b (max_of a b) ≡ true
  unfolding max_of
  max_ge_right n =
      by_test (λ (z : Float). le b z ≡ true) (lt a b) b _ (λ e. le_refl b n)
      (λ e. by_test (λ (z : Float). le b z ≡ true) (is_nan a) b a (λ g. le_refl b n) (λ g. not_lt_le b a n g e))

  pub max_fits : T (fits binary64 a) → T (fits binary64 b) → T (fits binary64 (max_of a b))
  unfolding max_of
  max_fits p q = cond-fits binary64 (lt a b) b (cond (is_nan a) b a) q (cond-fits binary64 (is_nan a) b a q p)

  pub min_fits : T (fits binary64 a) → T (fits binary64 b) → T (fits binary64 (min_of a b))
  unfolding min_of
  min_fits p q = cond-fits binary64 (lt b a) b (cond (is_nan a) b a) q (cond-fits binary64 (is_nan a) b a q p)
