-- The first number whose square, and another's, reach a bound. Assumes nothing.
use mathlib.Core.Path.{◌≡◌, sym, subst}
use mathlib.Core.List.{List}
use Prim.Native.Nat.{ℕ, ◌+◌, ◌≤◌, ◌<◌}
use native.Mathlib.Omega.{arith}
use native.Mathlib.Nat.{mul-le-mul}
use lib.ListN.{length, get_or, set}
use lib.Seq.{get_or-set_same, get_or-set_other}
use lib.Dec.{ltb}
use borrow.Author.Tests.{ltb-true, ltb-false}
use Rattle.loops.proofs.Cases.{by_cases}
use Rattle.distance.specs.Least.{square}
use Rattle.distance.specs.Column.{lost}
use Rattle.dilation.specs.Window.{most}
use Rattle.dilation.specs.Parts.{Width, WidthsTo, Widths}

pub square_mono : (a b : ℕ) → a ≤ b → square a ≤ square b
square_mono a b h = mul-le-mul h h

pub width_at_lem : (e d u v : ℕ) → v ≡ u + 1 → square u + square d < e → e ≤ square v + square d → Width e d v
width_at_lem e d u v q h k = record { below = λ x b. omega (arith, square_mono x u (omega arith)); above = k }

pub width_none : (e d v : ℕ) → v ≡ 0 → e ≤ square v + square d → Width e d v
width_none e d v q k = record { below = λ x b. absurd (let z : ⊥ = omega arith in z); above = k }

-- a bound that a width reaches is reached with a row more
pub width_next : (e d w : ℕ) → Width e d w → e ≤ square w + square (d + 1)
width_next e d w h = omega (arith, h.above, square_mono d (d + 1) (omega arith))

module _ (e : ℕ) where
  pub widths_more : (n v : ℕ) (t : List ℕ) → WidthsTo e n t → n < length t → Width e n v → WidthsTo e (n + 1) (set t n v)
  widths_more n v t h l w = record {
    at = λ d b. by_cases (ltb d n)
        (λ y. let z = ltb-true d n y in subst (Width e d) (sym (get_or-set_other t n d v 0 (λ q. let x : ⊥ = omega arith in x))) (h.at d z))
        (λ y. let z : n ≡ d = omega (arith, ltb-false d n y) in subst (λ (x : ℕ). Width e x (get_or (set t n v) x 0)) z (subst (Width e n) (sym (get_or-set_same t n v 0 l)) w));
  }

  pub widths-end : (t : List ℕ) → WidthsTo e lost t → lost < length t → Widths e (set t lost 0)
  widths-end t h l = record {
    at = λ d b. subst (Width e d) (sym (get_or-set_other t lost d 0 0 (λ q. let x : ⊥ = omega arith in x))) (h.at d b);
    none = get_or-set_same t lost 0 0 l;
  }

-- no width of a bound of that size is above 8192
pub width_few : (e : ℕ) (t : List ℕ) → e ≤ most → Widths e t → (d : ℕ) → d ≤ lost → get_or t d 0 ≤ 8192
width_few e t h W d b = by_cases (ltb d lost)
    (λ y. by_cases (ltb 8192 (get_or t d 0))
    (λ x. absurd (let z : ⊥ = omega (arith, (W.at d (ltb-true d lost y)).below 8192 (ltb-true 8192 (get_or t d 0) x)) in z))
    (λ x. ltb-false 8192 (get_or t d 0) x))
    (λ y. let z : lost ≡ d = omega (arith, ltb-false d lost y) in subst (λ (x : ℕ). get_or t x 0 ≤ 8192) z (omega (arith, W.none)))

-- within a bound of 0 there is no width
pub width_zero : (e : ℕ) (t : List ℕ) → e ≡ 0 → Widths e t → (d : ℕ) → d ≤ lost → get_or t d 0 ≡ 0
width_zero e t z W d b = by_cases (ltb d lost)
    (λ y. by_cases (ltb 0 (get_or t d 0))
    (λ x. absurd (let q : ⊥ = omega (arith, (W.at d (ltb-true d lost y)).below 0 (ltb-true 0 (get_or t d 0) x)) in q))
    (λ x. omega (arith, ltb-false 0 (get_or t d 0) x)))
    (λ y. let q : lost ≡ d = omega (arith, ltb-false d lost y) in subst (λ (x : ℕ). get_or t x 0 ≡ 0) q W.none)
