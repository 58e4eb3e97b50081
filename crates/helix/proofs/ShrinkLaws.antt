-- The shrinks of a helix's radius are never used up: for every job that the questions accept a radius that serves is found, or none is left, in 53 tests.
-- Assumes nothing.
use mathlib.Core.Path.{◌≡◌, refl, sym, ap, ◌∙◌, subst}
use mathlib.Core.Bool.{Bool, true, false, cond}
use Rattle.std.proofs.Common.{T, pos}
use mathlib.Core.List.{List}
use mathlib.Core.Option.{Option, none, some}
use Prim.Native.Nat.{ℕ, zero, suc, ◌+◌}
use native.Mathlib.Omega.{arith}
use lib.Ieee.Scale.{finite}
use lib.Ieee.{Float, fin, binary64, of_bits, round, sub, mul, lt, le, eq, is_nan}
use Rattle.loops.specs.Loop.{loop, Run, on, out, turn, any}
use Rattle.loops.proofs.Cases.{by_cases, by_test, never}
use Rattle.loops.proofs.LoopLaws.{loop_more, loop_both, out_stays}
use Rattle.floats.proofs.OrderLaws.{le_lt, le_le, lt_le, lt_to_le, le_numbers, lt_not_le}
use Rattle.floats.proofs.MulMono.{mul_mono}
use Rattle.floats.proofs.NumberLaws.{nonzero, scale_number}
use Rattle.floats.proofs.SwapLaws.{mul_swap}
use Rattle.geom.specs.declared.vec2.Vec2.{Vec2}
use Rattle.numbers.specs.Order.{min_of}
use Rattle.numbers.specs.Small.{f2, f1000, half, c01}
use Rattle.setup.specs.declared.Setup.{Setup}
use Rattle.events.specs.Chunk.{Job}
use Rattle.events.specs.Helix.{c80, rim_blocked, shrink, shrunk, radius_of}
use Rattle.helix.specs.Search.{least_of, widest_of, bare_job, radius_at}

-- 1,000 after k shrinks
unfoldable pub after_shrinks : ℕ → Float
after_shrinks zero = f1000
after_shrinks (suc k) = mul binary64 (after_shrinks k) c80

-- 0.01, of a diameter of 0.1
abbrev hundredth : Float
hundredth = of_bits binary64 0x3f84_7ae1_47ae_147b

small : lt (after_shrinks 52) hundredth ≡ true
unfolding after_shrinks of_bits round mul lt
small = refl

-- ---- the order is kept by a shrink

shrink_mono : (x y : Float) → le x y ≡ true → le (mul binary64 x c80) (mul binary64 y c80) ≡ true
unfolding of_bits le lt eq
shrink_mono x y h = mul_mono binary64 x y c80 refl h (scale_number binary64 x c80 (le_numbers x y h).0 tt tt) (scale_number binary64 y c80 (le_numbers x y h).1 tt tt)

-- a least radius that is above what 52 shrinks leave of 1,000
module _ (j : Job) (c : Vec2) (L : lt (after_shrinks 52) j.entry.least ≡ true) where
  -- a radius that is tried is at most that
  abbrev Bounded : ℕ → Run Float (Option Float) → Type 0
  Bounded i (on rad) = le j.entry.least rad ≡ true → le rad (after_shrinks i) ≡ true
  Bounded i (out o) = Unit

  shrink_bounded : (i : ℕ) (r : Run Float (Option Float)) → Bounded i r → Bounded (suc i) (turn (shrink j c) i r)
  unfolding turn shrink after_shrinks
  shrink_bounded i (out o) h = tt
  shrink_bounded i (on rad) h =
      by_test (Bounded (suc i)) (le j.entry.least rad) _ _
      (λ t. by_test (Bounded (suc i)) (any (rim_blocked j c rad) 0 36) _ _ (λ b u. shrink_mono rad (after_shrinks i) (h t)) (λ b. tt))
      (λ t. tt)

  -- so none is tried after 52 shrinks
  last_out : (r : Run Float (Option Float)) → Bounded 52 r → (o : Option Float) × (turn (shrink j c) 52 r ≡ out o)
  unfolding turn shrink
  last_out (out o) h = (o, refl)
  last_out (on rad) h =
      by_cases (le j.entry.least rad)
      (λ t. never (sym (lt_not_le rad j.entry.least (le_lt rad (after_shrinks 52) j.entry.least (h t) L)) ∙ t))
      (λ t. (none, ap (λ (x : Bool). cond x (cond (any (rim_blocked j c rad) 0 36) (on (mul binary64 rad c80)) (out (some rad))) (out none)) t))

  module _ (widest : Float) (W : le widest f1000 ≡ true) where
    all_bounded : Bounded 52 (loop (turn (shrink j c)) 0 52 (on widest))
    unfolding after_shrinks
    all_bounded =
        loop_both (turn (shrink j c)) (λ (i : ℕ) (u : ℕ). u) (λ (i : ℕ) (r : Run Float (Option Float)) (u : ℕ). Bounded i r) 0 52 (omega arith)
        (λ i r u a b h. subst (λ (k : ℕ). Bounded k (turn (shrink j c) i r)) (let z : suc i ≡ i + 1 = omega arith in z) (shrink_bounded i r h)) (on widest) 0 (λ t. W)

    pub shrinks_left : loop (turn (shrink j c)) 0 65 (on widest) ≡ out (radius_of j c widest)
    unfolding radius_of shrunk
    shrinks_left =
        let q = last_out (loop (turn (shrink j c)) 0 52 (on widest)) all_bounded in
        let x : loop (turn (shrink j c)) 0 53 (on widest) ≡ out q.0 = sym (loop_more (turn (shrink j c)) 0 52 (on widest) (omega arith)) ∙ q.1 in
        let y : loop (turn (shrink j c)) 0 65 (on widest) ≡ out q.0 = out_stays (shrink j c) 0 53 65 (on widest) q.0 (omega arith) (omega arith) x in
        y ∙ ap (λ (o : Option Float). out o) (sym (ap (shrunk j c) y))

-- 0.1 * 2.0
abbrev fifth : Float
fifth = mul binary64 c01 f2

-- ---- for the jobs that the questions accept: a diameter of at least 0.1, a preferred radius of at most 1,000

-- what is closed of it is worked out by itself
half_up : le (fin false 0 (pos 0)) half ≡ true
unfolding of_bits le
half_up = refl

fifth_up : le (fin false 0 (pos 0)) fifth ≡ true
unfolding of_bits round mul le
fifth_up = refl

half_finite : T (finite half)
unfolding of_bits
half_finite = tt

half_nonzero : T (nonzero half)
unfolding of_bits
half_nonzero = tt

fifth_finite : T (finite fifth)
unfolding of_bits round mul
fifth_finite = tt

fifth_nonzero : T (nonzero fifth)
unfolding of_bits round mul
fifth_nonzero = tt

tenth_half : is_nan (mul binary64 c01 half) ≡ false
unfolding of_bits round mul is_nan
tenth_half = refl

tenth_fifth : is_nan (mul binary64 (mul binary64 c01 half) fifth) ≡ false
unfolding of_bits round mul is_nan
tenth_fifth = refl

hundredth_le : le hundredth (mul binary64 fifth (mul binary64 c01 half)) ≡ true
unfolding of_bits round mul le
hundredth_le = refl

least-high : (s : Setup) (diameter : Float) → s.r ≡ mul binary64 diameter half → le c01 diameter ≡ true → lt (after_shrinks 52) (least_of s) ≡ true
unfolding least_of
least-high s diameter e h =
    subst (λ (r : Float). lt (after_shrinks 52) (mul binary64 fifth r) ≡ true) (sym e)
    (lt_le (after_shrinks 52) hundredth (mul binary64 fifth (mul binary64 diameter half)) small
    (le_le hundredth (mul binary64 fifth (mul binary64 c01 half)) (mul binary64 fifth (mul binary64 diameter half)) hundredth_le
    (rw (mul_swap binary64 fifth (mul binary64 c01 half), mul_swap binary64 fifth (mul binary64 diameter half))
    (mul_mono binary64 (mul binary64 c01 half) (mul binary64 diameter half) fifth fifth_up
    (mul_mono binary64 c01 diameter half half_up h tenth_half number) tenth_fifth (scale_number binary64 (mul binary64 diameter half) fifth number fifth_finite fifth_nonzero)))))
  where
    number : is_nan (mul binary64 diameter half) ≡ false
    number = scale_number binary64 diameter half (le_numbers c01 diameter h).1 half_finite half_nonzero

widest-low : (s : Setup) (pref d : Float) → le pref f1000 ≡ true → le (widest_of s pref d) f1000 ≡ true
unfolding widest_of min_of
widest-low s pref d h =
    let x : Float = sub binary64 (sub binary64 d s.keep.r) (mul binary64 f2 s.grid.cell) in
    by_test (λ (w : Float). le w f1000 ≡ true) (lt x pref) _ _
    (λ t. le_le x pref f1000 (lt_to_le x pref t) h)
    (λ t. by_test (λ (w : Float). le w f1000 ≡ true) (is_nan pref) _ _ (λ u. never (sym (le_numbers pref f1000 h).0 ∙ u)) (λ u. h))

-- 64 shrinks are never met: the loop is left
pub shrinks_unmet : (s : Setup) (wall vs : List Float) (lens : List ℕ) (diameter pref d : Float) (c : Vec2) → s.r ≡ mul binary64 diameter half → le c01 diameter ≡ true → le pref f1000 ≡ true
    → loop (turn (shrink (bare_job s wall vs lens) c)) 0 65 (on (widest_of s pref d)) ≡ out (radius_at s wall vs lens c (widest_of s pref d))
shrinks_unmet s wall vs lens diameter pref d c e h k = shrinks_left (bare_job s wall vs lens) c (least-high s diameter e h) (widest_of s pref d) (widest-low s pref d k)
