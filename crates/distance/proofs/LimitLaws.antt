-- A length grows with its square, so a test that it passes is a test of the square. Assumes nothing.
use mathlib.Core.Path.{◌≡◌, refl, sym, ap, ◌∙◌, subst}
use mathlib.Core.Bool.{Bool, true, false, cond, ◌&&◌, true≢false}
use Prim.Native.Nat.{ℕ, ◌-◌, ◌≤◌}
use native.Mathlib.Omega.{arith}
use lib.Dec.{T, eqb, ltb, leb}
use lib.IntN.{pos}
use lib.Ieee.{Float, nan, inf, fin, binary64, of_int, lt, le, is_nan}
use lib.Ieee.Scale.{finite}
use lib.Ieee.Positive.{positive}
use borrow.Author.Tests.{ltb-true, ltb-false, ne_eqb, eqb-false, le-leb, lt-leb}
use Rattle.loops.proofs.Cases.{by_cases, by_test, both}
use Rattle.floats.proofs.OrderLaws.{le_lt, le_le, le_not_lt, not_le_lt, lt_numbers}
use Rattle.floats.proofs.SignLaws.{under_top, zero_under, positive_unsigned}
use Rattle.floats.proofs.NumberLaws.{positive_nonzero, scale_number}
use Rattle.floats.proofs.MulMono.{mul_mono}
use Rattle.numbers.proofs.WholeLaws.{nought}
use Rattle.numbers.proofs.NarrowLaws.{pos_of}
use Rattle.numbers.proofs.RootMono.{root_at, root_defined, root-whole_mono, whole_above}
use Rattle.distance.specs.Least.{far}
use Rattle.distance.specs.Rooted.{rooted_of}
use Rattle.std.specs.Prelude.{Option, Some, None}
use Rattle.distance.specs.Limits.{scaled_of, passes_of, Splits, LimitOf, Ordered}
use Rattle.distance.specs.declared.limits.Threshold.{Threshold}

distance_number : (d : ℕ) → is_nan (rooted_of d) ≡ false
unfolding rooted_of is_nan
distance_number d = by_test (λ (v : Float). is_nan v ≡ false) (eqb d far) (inf false) (root_at d) (λ _. refl) (λ _. root_defined (of_int binary64 (pos d)) (whole_above d))

distance_mono : (i j : ℕ) → i ≤ j → j ≤ far → le (rooted_of i) (rooted_of j) ≡ true
unfolding rooted_of
distance_mono i j a b = by_test (λ (v : Float). le (rooted_of i) v ≡ true) (eqb j far) (inf false) (root_at j)
    (λ _. under_top (rooted_of i) (distance_number i))
    (λ e. rw (ne_eqb i far (λ z. eqb-false j far e (omega arith))) (root-whole_mono i j a))

positive_finite : (x : Float) → T (positive x) → T (finite x)
positive_finite nan a = a
positive_finite (inf s) a = a
positive_finite (fin s m e) a = tt

pub ordered_scaled : (b : Threshold) (scale : Float) → b.scale ≡ Some scale → (lt nought scale && lt scale (inf false)) && lt b.x (inf false) ≡ true → Ordered b
ordered_scaled b scale h e =
    let p = both (lt nought scale && lt scale (inf false)) (lt b.x (inf false)) e in
    let q = both (lt nought scale) (lt scale (inf false)) p.0 in
    record {
      scale_up = λ u k. let z : u ≡ scale = cc in subst (λ (v : Float). T (positive v)) (sym z) (pos_of scale q.0 q.1);
      number = (lt_numbers b.x (inf false) p.1).0;
    }

pub ordered_plain : (b : Threshold) → b.scale ≡ None → lt b.x (inf false) ≡ true → Ordered b
ordered_plain b h e = record { scale_up = λ u k. let z : Some u ≡ None = sym k ∙ h in cc; number = (lt_numbers b.x (inf false) e).0 }

scaled-number : (o : Option Float) (d : ℕ) → ((u : Float) → o ≡ Some u → T (positive u)) → is_nan (scaled_of o d) ≡ false
unfolding scaled_of
scaled-number (Some u) d p = let w = p u refl in scale_number binary64 (rooted_of d) u (distance_number d) (positive_finite u w) (positive_nonzero u w)
scaled-number None d p = distance_number d

scaled_mono : (o : Option Float) (i j : ℕ) → ((u : Float) → o ≡ Some u → T (positive u)) → i ≤ j → j ≤ far
    → is_nan (scaled_of o i) ≡ false → is_nan (scaled_of o j) ≡ false → le (scaled_of o i) (scaled_of o j) ≡ true
unfolding scaled_of
scaled_mono (Some u) i j p a b m n = mul_mono binary64 (rooted_of i) (rooted_of j) u (zero_under false (pos 0) u (positive_unsigned u (p u refl))) (distance_mono i j a b) m n
scaled_mono None i j p a b m n = distance_mono i j a b

module _ (b : Threshold) (o : Ordered b) where
  length-number : (d : ℕ) → is_nan (scaled_of b.scale d) ≡ false
  length-number d = scaled-number b.scale d o.scale_up

  length_mono : (i j : ℕ) → i ≤ j → j ≤ far → le (scaled_of b.scale i) (scaled_of b.scale j) ≡ true
  length_mono i j a h = scaled_mono b.scale i j o.scale_up a h (length-number i) (length-number j)

  -- what passes, passes for each lesser square
  falls : (i j : ℕ) → i ≤ j → j ≤ far → passes_of b j ≡ true → passes_of b i ≡ true
  unfolding passes_of
  falls i j a h = go b.strict
    where
      go : (s : Bool) → cond s (lt (scaled_of b.scale j) b.x) (le (scaled_of b.scale j) b.x) ≡ true → cond s (lt (scaled_of b.scale i) b.x) (le (scaled_of b.scale i) b.x) ≡ true
      go true e = le_lt (scaled_of b.scale i) (scaled_of b.scale j) b.x (length_mono i j a h) e
      go false e = le_le (scaled_of b.scale i) (scaled_of b.scale j) b.x (length_mono i j a h) e

  pub limit_at : (n : ℕ) → n ≤ far → Splits (passes_of b) n → LimitOf b n
  limit_at n high s = record { squares = each; number = o.number; lengths = length-number }
    where
      each : (d : ℕ) → d ≤ far → passes_of b d ≡ ltb d n
      each d h = by_cases (ltb d n)
          (λ e. let k = ltb-true d n e in falls d (n - 1) (omega arith) (omega arith) (s.before (omega arith)) ∙ sym e)
          (λ e. by_cases (passes_of b d) (λ k. absurd (true≢false (sym (falls n d (ltb-false d n e) h k) ∙ s.fails))) (λ k. k ∙ sym e))

-- above x is not at most x
pub beyond-is : (b : Threshold) (n d : ℕ) → LimitOf b n → b.strict ≡ false → d ≤ far → leb n d ≡ lt b.x (scaled_of b.scale d)
unfolding passes_of
beyond-is b n d l s h = by_cases (ltb d n)
    (λ k. lt-leb n d (ltb-true d n k) ∙ sym (le_not_lt (scaled_of b.scale d) b.x (at_most k)))
    (λ k. le-leb n d (ltb-false d n k) ∙ sym (not_le_lt b.x (scaled_of b.scale d) l.number (l.lengths d) (at_most k)))
  where
    at_most : {v : Bool} → ltb d n ≡ v → le (scaled_of b.scale d) b.x ≡ v
    at_most k = ap (λ (s' : Bool). cond s' (lt (scaled_of b.scale d) b.x) (le (scaled_of b.scale d) b.x)) (sym s) ∙ l.squares d h ∙ k
