-- For the proofs of `radius`: the rim points, and the radii that are tried. Assumes nothing.
use mathlib.Core.Path.{◌≡◌, refl, sym, ap, ◌∙◌}
use mathlib.Core.Bool.{Bool, true, false, cond, not}
use mathlib.Core.List.{List}
use mathlib.Core.Option.{Option, none, some}
use Prim.Native.Nat.{ℕ, ◌+◌, ◌≤◌, ◌<◌}
use lib.Ieee.{Float, binary64, mul, div, le}
use Rattle.std.specs.Prelude.{Some, None}
use Rattle.loops.specs.Loop.{loop, Run, on, out, turn, any}
use Rattle.loops.proofs.LoopLaws.{Going, going_end, going_out, going_on}
use Rattle.numbers.specs.Cast.{float}
use Rattle.numbers.specs.Circle.{tau}
use Rattle.geom.specs.Vec.{sum, scaled, from_angle}
use Rattle.geom.specs.declared.vec2.Vec2.{Vec2}
use Rattle.setup.specs.Place.{allowed_at}
use Rattle.setup.specs.declared.Setup.{Setup}
use Rattle.events.specs.Chunk.{Spot, Job}
use Rattle.events.specs.Replay.{rim_point}
use Rattle.events.specs.Helix.{c80, rim_blocked, shrink, shrunk, radius_of}
use Rattle.passes.specs.Tried.{job_at}
use Rattle.helix.specs.Search.{least_of, bare_job, radius_at, radius_by}

pub rim-is : (c : Vec2) (rad : Float) (k : ℕ) (f g : Float) (v w p : Vec2) → f ≡ float k → g ≡ float 36 → v ≡ from_angle (div binary64 (mul binary64 tau f) g) → w ≡ scaled v rad → p ≡ sum c w → p ≡ rim_point c rad k
unfolding rim_point
rim-is c rad k f g v w p a b d e h =
    h ∙ ap (sum c) (e ∙ ap (λ (x : Vec2). scaled x rad) (d ∙ ap (λ (x : Float). from_angle (div binary64 (mul binary64 tau x) g)) a ∙ ap (λ (x : Float). from_angle (div binary64 (mul binary64 tau (float k)) x)) b))

module _ (s : Setup) (wall vs : List Float) (lens : List ℕ) (c : Vec2) where
  abbrev job : Job
  job = bare_job s wall vs lens

  pub blocked-is : (rad : Float) (k : ℕ) (p : Vec2) → p ≡ rim_point c rad k → (b : Bool) → b ≡ allowed_at s wall vs lens p → rim_blocked job c rad k ≡ not b
  unfolding rim_blocked
  blocked-is rad k p e b q = ap not (ap (allowed_at s wall vs lens) (sym e) ∙ sym q)

  -- k shrinks have led from `widest` to rad
  module _ (widest rad : Float) (k : ℕ) (G : Going (turn (shrink job c)) 0 65 (on widest) (on rad) k) (h : k < 65) where
    too_small : le (least_of s) rad ≡ false → shrink job c k rad ≡ out none
    unfolding shrink
    too_small t = ap (λ (x : Bool). cond x (cond (any (rim_blocked job c rad) 0 36) (on (mul binary64 rad c80)) (out (some rad))) (out none)) t

    wide_enough : le (least_of s) rad ≡ true → (free : Bool) → free ≡ not (any (rim_blocked job c rad) 0 36) → shrink job c k rad ≡ cond free (out (some rad)) (on (mul binary64 rad c80))
    unfolding shrink
    wide_enough t free f =
        ap (λ (x : Bool). cond x (cond (any (rim_blocked job c rad) 0 36) (on (mul binary64 rad c80)) (out (some rad))) (out none)) t
        ∙ flip (any (rim_blocked job c rad) 0 36)
        ∙ ap (λ (x : Bool). cond x (out (some rad)) (on (mul binary64 rad c80))) (sym f)
      where
        flip : (b : Bool) → cond {A = Run Float (Option Float)} b (on (mul binary64 rad c80)) (out (some rad)) ≡ cond (not b) (out (some rad)) (on (mul binary64 rad c80))
        flip true = refl
        flip false = refl

    pub radius-none : le (least_of s) rad ≡ false → radius_by None ≡ radius_at s wall vs lens c widest
    unfolding radius_of shrunk
    radius-none t = sym (ap (shrunk job c) (going_out (shrink job c) 0 65 (on widest) rad k none G h (too_small t)))

    pub radius-some : le (least_of s) rad ≡ true → (free : Bool) → free ≡ not (any (rim_blocked job c rad) 0 36) → free ≡ true → radius_by (Some rad) ≡ radius_at s wall vs lens c widest
    unfolding radius_of shrunk
    radius-some t free f e =
        sym (ap (shrunk job c) (going_out (shrink job c) 0 65 (on widest) rad k (some rad) G h (wide_enough t free f ∙ ap (λ (x : Bool). cond x (out (some rad)) (on (mul binary64 rad c80))) e)))

    pub radius_more : le (least_of s) rad ≡ true → (free : Bool) → free ≡ not (any (rim_blocked job c rad) 0 36) → free ≡ false → Going (turn (shrink job c)) 0 65 (on widest) (on (mul binary64 rad c80)) (k + 1)
    radius_more t free f e =
        going_on (shrink job c) 0 65 (on widest) rad (mul binary64 rad c80) k G h (sym (wide_enough t free f ∙ ap (λ (x : Bool). cond x (out (some rad)) (on (mul binary64 rad c80))) e))

  pub radius-end : (widest rad : Float) (k : ℕ) → Going (turn (shrink job c)) 0 65 (on widest) (on rad) k → 65 ≤ k → radius_by None ≡ radius_at s wall vs lens c widest
  unfolding radius_of shrunk
  radius-end widest rad k G h = ap (shrunk job c) (going_end (turn (shrink job c)) 0 65 (on widest) (on rad) k G h)

-- the radius at a place is the same for every job that has this least radius
module _ (s : Setup) (wall vs : List Float) (lens start : List ℕ) (limit : Float) (place : List ℕ → List ℕ → Option Spot) (abandon : List ℕ → List ℕ → List ℕ) (c : Vec2) where
  abbrev whole : Job
  whole = job_at s wall vs lens start limit (record { place = place; abandon = abandon; least = least_of s })

  shrink-same : shrink whole c ≡ shrink (bare_job s wall vs lens) c
  unfolding shrink rim_blocked
  shrink-same = refl

  shrunk-same : (r : Run Float (Option Float)) → shrunk whole c r ≡ shrunk (bare_job s wall vs lens) c r
  unfolding shrunk
  shrunk-same (on rad) = refl
  shrunk-same (out o) = refl

  pub radius-same : (widest : Float) → radius_of whole c widest ≡ radius_at s wall vs lens c widest
  unfolding radius_of
  radius-same widest = ap (λ (f : ℕ → Float → Run Float (Option Float)). shrunk whole c (loop (turn f) 0 65 (on widest))) shrink-same ∙ shrunk-same _
