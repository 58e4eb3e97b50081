-- Rounding to the nearest by one sum and one cut, with no test. Assumes nothing.
use Rattle.std.proofs.Common.{◌≡◌, ℕ, zero, suc, ◌+◌, ◌-◌, ◌*◌, ◌/◌, ◌%◌, ◌^◌, ◌<◌, ◌≤◌, sym, refl, ap, ◌∙◌, mod-lt, add-mul, div-add-mod', arith}
use Prim.Native.Nat.{compare, Ordering}
use native.Mathlib.Nat.{div-eq_of_lt-le}
use native.Mathlib.Decide.{dec_lt}
use lib.Ieee.{nearest}
use lib.Ieee.Nearest.{closest}
use Rattle.floats.proofs.RoundLaws.{nearest_lt, nearest_eq, nearest_gt}

-- the divisor is twice h: a little less than a half is added, and one more where the quotient is odd
pub by_sum : (m h : ℕ) → 0 < h → (m + (h - 1) + m / (h + h) % 2) / (h + h) ≡ closest m (h + h)
by_sum m h H = go (dec_lt (r * 2) u) (dec_lt u (r * 2))
  where
    u : ℕ
    u = h + h

    q : ℕ
    q = m / u

    r : ℕ
    r = m % u

    whole : q * u + r ≡ m
    whole = div-add-mod' m u

    U : 0 < u
    U = omega arith

    small : r < u
    small = mod-lt m U

    -- the quotient is k where the sum stands in the k-th turn
    cut : (k s : ℕ) → q * u + s ≡ m + (h - 1) + q % 2 → k * u ≤ q * u + s → q * u + s < k * u + u → (m + (h - 1) + q % 2) / u ≡ k
    cut k s e lo hi =
        let t : (k + 1) * u ≡ k * u + 1 * u = add-mul k 1 u in
        ap (λ (z : ℕ). z / u) (sym e) ∙ div-eq_of_lt-le u lo (omega arith)

    go : Dec (r * 2 < u) → Dec (u < r * 2) → (m + (h - 1) + q % 2) / u ≡ closest m u
    go (yes a) b = cut q (r + (h - 1) + q % 2) (omega (arith, whole, small)) (omega (arith, whole, small)) (omega (arith, whole, small)) ∙ sym (nearest_lt q (r * 2) u a)
    go (no a) (yes b) =
        let t : (q + 1) * u ≡ q * u + 1 * u = add-mul q 1 u in
        cut (q + 1) (r + (h - 1) + q % 2) (omega (arith, whole, small)) (omega (arith, whole, small)) (omega (arith, whole, small)) ∙ sym (nearest_gt q (r * 2) u b)
    go (no a) (no b) =
        let e : r * 2 ≡ u = omega arith in
        let t : (q + q % 2) * u ≡ q * u + q % 2 * u = add-mul q (q % 2) u in
        cut (q + q % 2) (r + (h - 1) + q % 2) (omega (arith, whole, small)) (odd (q % 2) (small-rest q)) (even (q % 2) (small-rest q)) ∙ sym (nearest_eq q (r * 2) u e)
      where
        small-rest : (q : ℕ) → q % 2 < 2
        small-rest q = omega arith

        more : (b : ℕ) → suc (suc b) < 2 → ⊥
        more b l = omega arith

        odd : (b : ℕ) → b < 2 → (q + b) * u ≤ q * u + (r + (h - 1) + b)
        odd zero l = let t : (q + 0) * u ≡ q * u + 0 * u = add-mul q 0 u in omega (arith, whole, small)
        odd (suc zero) l = let t : (q + 1) * u ≡ q * u + 1 * u = add-mul q 1 u in omega (arith, whole, small)
        odd (suc (suc b)) l = absurd (more b l)

        even : (b : ℕ) → b < 2 → q * u + (r + (h - 1) + b) < (q + b) * u + u
        even zero l = let t : (q + 0) * u ≡ q * u + 0 * u = add-mul q 0 u in omega (arith, whole, small)
        even (suc zero) l = let t : (q + 1) * u ≡ q * u + 1 * u = add-mul q 1 u in omega (arith, whole, small)
        even (suc (suc b)) l = absurd (more b l)

-- a multiple of a higher power of two goes through
pub carried : (k m : ℕ) → closest (k * 2 ^ 52 + m) (2 ^ 29) ≡ k * 2 ^ 23 + closest m (2 ^ 29)
carried k m =
    let q : (k * 4503599627370496 + m) / 536870912 ≡ k * 8388608 + m / 536870912 = omega arith in
    let r : (k * 4503599627370496 + m) % 536870912 ≡ m % 536870912 = omega arith in
    ap (λ (z : ℕ). nearest ((k * 2 ^ 52 + m) / 2 ^ 29) (compare (z * 2) (2 ^ 29))) r
    ∙ ap (λ (z : ℕ). nearest z (compare (m % 2 ^ 29 * 2) (2 ^ 29))) q
    ∙ go (m / 2 ^ 29) (compare (m % 2 ^ 29 * 2) (2 ^ 29))
  where
    go : (q : ℕ) (o : Ordering) → nearest (k * 8388608 + q) o ≡ k * 8388608 + nearest q o
    go q Ordering.lt = refl
    go q Ordering.eq = omega arith
    go q Ordering.gt = omega arith
