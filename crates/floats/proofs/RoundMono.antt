-- `round` keeps the order of fractions of either sign, overflow to an infinity included: `round_le`. And of differences (P - N) / c, rounded: `rounds_le`.
-- Assumes nothing.
use mathlib.Core.Path.{◌≡◌, refl, sym, ap, ◌∙◌}
use mathlib.Core.Logic.{◌⊎◌, inl, inr}
use mathlib.Core.Bool.{Bool, true, false}
use Prim.Native.Nat.{ℕ, zero, suc, ◌+◌, ◌-◌, ◌*◌, ◌^◌, ◌≤◌, ◌<◌}
use native.Mathlib.Nat.{zero-mul, mul_comm, mul-sub, mul-le-mul_right}
use native.Mathlib.Omega.{arith}
use lib.IntN.{pos}
use lib.Dec.{T}
use lib.Pow.{pow_pos}
use lib.Ieee.{Float, fin, Format, prec, emax, low, round, neg, lt, eq, le, fits}
use lib.Ieee.Fits.{round-fits}
use lib.Ieee.Bits.{is_true}
use lib.Ieee.Exact.{round_exact}
use lib.Ieee.Order.{round_mono}
use Rattle.floats.proofs.OrderLaws.{Le, zero_of, le_le}
use Rattle.floats.proofs.SignLaws.{unsigned, zero_under, round_unsigned, round_neg, neg_le}
use Rattle.floats.proofs.ExactLaws.{value_unique}

-- ---- zero

pub round_zero : (f : Format) (s : Bool) (c : ℕ) → 0 < c → round f s 0 c ≡ fin s 0 (pos 0)
unfolding fits
round_zero f s c C =
    value_unique f (round f s 0 c) (fin s 0 (pos 0)) s 0 c C (round-fits f s 0 c) tt
    (round_exact f s 0 c 0 0 C (pow_pos (prec f)) (pow_pos (low f + suc (emax f))) (zero-mul (2 ^ low f) ∙ sym (zero-mul c))) (refl, zero-mul c)

both_zero : le (fin false 0 (pos 0)) (fin true 0 (pos 0)) ≡ true
unfolding le lt eq
both_zero = refl

-- ---- with signs

-- zero lies between
under-over : (x y : Float) → T (unsigned x) → T (unsigned y) → le (neg x) y ≡ true
unfolding neg
under-over x y a b = le_le (neg x) (fin true zero (pos 0)) y (neg_le (fin false zero (pos 0)) x (zero_under false (pos 0) x a)) (zero_under true (pos 0) y b)

pub round_le : (f : Format) (s : Bool) (a c : ℕ) (t : Bool) (b d : ℕ) → 0 < c → 0 < d → Le s (a * d) t (b * c) → le (round f s a c) (round f t b d) ≡ true
round_le f false a c false b d C D h = is_true _ (round_mono f a c b d C D h)
round_le f false a c true b d C D h =
    rw (zero_of a d D h.0, zero_of b c C h.1, round_zero f false c C, round_zero f true d D) both_zero
round_le f true a c false b d C D h = rw (round_neg f a c) (under-over (round f false a c) (round f false b d) (round_unsigned f a c) (round_unsigned f b d))
round_le f true a c true b d C D h = rw (round_neg f a c, round_neg f b d) (neg_le (round f false b d) (round f false a c) (is_true _ (round_mono f b d a c D C h)))

-- ---- differences

sub_mul : (a b c : ℕ) → (a - b) * c ≡ a * c - b * c
sub_mul a b c = mul_comm (a - b) c ∙ mul-sub c a b ∙ ap (λ (z : ℕ). z - c * b) (mul_comm c a) ∙ ap (λ (z : ℕ). a * c - z) (mul_comm c b)

-- x is (P - N) / c rounded, and a zero of either sign where P is N
abbrev pub Rounds : Format → Float → ℕ → ℕ → ℕ → Type 0
Rounds f x P N c = ((N ≤ P) × (x ≡ round f false (P - N) c)) ⊎ ((P ≤ N) × (x ≡ round f true (N - P) c))

module _ (f : Format) (P N c P' N' c' : ℕ) (C : 0 < c) (C' : 0 < c') (h : P * c' + N' * c ≤ P' * c + N * c') where
  pub rounds_le : (x y : Float) → Rounds f x P N c → Rounds f y P' N' c' → le x y ≡ true
  rounds_le x y (inl p) (inl q) =
      let a = sub_mul P N c' in
      let b = sub_mul P' N' c in
      let i = mul-le-mul_right c' p.0 in
      let j = mul-le-mul_right c q.0 in
      rw (p.1, q.1) (round_le f false (P - N) c false (P' - N') c' C C' (omega arith))
  rounds_le x y (inl p) (inr q) =
      let a = sub_mul P N c' in
      let b = sub_mul N' P' c in
      let i = mul-le-mul_right c' p.0 in
      let j = mul-le-mul_right c q.0 in
      rw (p.1, q.1) (round_le f false (P - N) c true (N' - P') c' C C' (omega arith, omega arith))
  rounds_le x y (inr p) (inl q) = rw (p.1, q.1) (round_le f true (N - P) c false (P' - N') c' C C' tt)
  rounds_le x y (inr p) (inr q) =
      let a = sub_mul N P c' in
      let b = sub_mul N' P' c in
      let i = mul-le-mul_right c' p.0 in
      let j = mul-le-mul_right c q.0 in
      rw (p.1, q.1) (round_le f true (N - P) c true (N' - P') c' C C' (omega arith))
