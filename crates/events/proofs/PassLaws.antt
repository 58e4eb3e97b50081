-- A pass grows at its end, point by point; cleared by a loop over the triples in a slice it is the pass over the points that those triples are. Assumes nothing.
use mathlib.Core.Path.{◌≡◌, refl, sym, ap, ◌∙◌, subst}
use Prim.Native.Nat.{ℕ, zero, suc, ◌+◌, ◌-◌}
use native.Mathlib.Omega.{arith}
use mathlib.Core.List.{List, [], ◌∷◌, ◌++◌, map}
use lib.ListN.{length, length-append}
use lib.Ieee.{Float}
use Rattle.loops.specs.Loop.{turns, loop}
use Rattle.loops.proofs.LoopLaws.{loop_keeps, Going}
use Rattle.geom.specs.declared.vec2.Vec2.{Vec2}
use Rattle.raster.specs.Log.{Stock, Ready, clear_after, passes}
use Rattle.raster.specs.declared.grid.Grid.{Grid}
use Rattle.raster.proofs.LogLaws.{Kept, kept-none, kept-cell, keep-after}
use Rattle.events.specs.Chunk.{Point, Job}
use Rattle.events.specs.Replay.{last_of, spots}
use Rattle.events.specs.Events.{cuts_from, cuts_of, pass_logged, PointChecked, LaterChecked}
use Rattle.events.specs.Read.{spot_at, point_at, points_from, crescent_by, pass_by}

-- ---- one more point

pub last_more : {A B : Type 0} (f : B → A) (a : A) (l : List B) (x : B) → last_of a (map f (l ++ (x ∷ []))) ≡ f x
last_more f a [] x = refl
last_more f a (y ∷ l) x = last_more f (f y) l x

module _ (j : Job) where
  -- the stock after the later points ps of a pass
  abbrev pub later_logged : Vec2 → List Point → Stock → Stock
  later_logged p ps s = passes j.grid (cuts_from j.r p ps) s

  pub later_more : (p : Vec2) (ps : List Point) (q : Point) (s : Stock)
      → clear_after j.grid (last_of p (spots ps)) q.at j.r (later_logged p ps s) ≡ later_logged p (ps ++ (q ∷ [])) s
  unfolding passes cuts_from
  later_more p [] q s = refl
  later_more p (d ∷ ps) q s = later_more d.at ps q (clear_after j.grid p d.at j.r s)

  -- a point checked on the map as the pass so far left it
  pub checked_more : (s : Stock) (p : Vec2) (ps : List Point) (q : Point) → LaterChecked j s p ps → PointChecked j (later_logged p ps s).cells q → LaterChecked j s p (ps ++ (q ∷ []))
  unfolding passes cuts_from
  checked_more s p [] q h g = (g, tt)
  checked_more s p (d ∷ ps) q h g = (h.0, checked_more (clear_after j.grid p d.at j.r s) d.at ps q h.1 g)

-- ---- a pass from its triples

-- what clearing keeps holds in each turn
pub going_pass : (g : Grid) (r : Float) (ts : List Float) (first a e : ℕ) (s t : Stock) (k : ℕ) → Ready s → Going (crescent_by g r ts first) a e s t k → Kept s t
unfolding crescent_by
going_pass g r ts first a e s t k h i =
    subst (Kept s) (sym i.is) (loop_keeps (crescent_by g r ts first) a (Kept s) k (λ n u b c x. keep-after (Kept s) (kept-cell s h) g _ _ r u x) s (kept-none s))

pub points-long : (ts : List Float) (first n : ℕ) → length (points_from ts first n) ≡ n
points-long ts first zero = refl
points-long ts first (suc n) = let i = points-long ts first n in omega (arith, length-append (points_from ts first n) (point_at ts (first + n) ∷ []))

-- the first point of those that are read
pub first-point : (o : List Float) (a n : ℕ) → points_from o a (suc n) ≡ point_at o a ∷ points_from o (a + 1) n
first-point o a zero = ap (λ (k : ℕ). point_at o k ∷ []) (let z : a + 0 ≡ a = omega arith in z)
first-point o a (suc n) =
    ap (λ (l : List Point). l ++ (point_at o (a + suc n) ∷ [])) (first-point o a n)
    ∙ ap (λ (k : ℕ). point_at o a ∷ (points_from o (a + 1) n ++ (point_at o k ∷ []))) (let z : a + suc n ≡ a + 1 + n = omega arith in z)

module _ (j : Job) (ts : List Float) (first : ℕ) where
  last-from : (n : ℕ) → last_of (spot_at ts first) (spots (points_from ts (first + 1) n)) ≡ spot_at ts (first + (1 + n) - 1)
  last-from zero = ap (spot_at ts) (let z : first ≡ first + (1 + 0) - 1 = omega arith in z)
  last-from (suc n) = last_more (λ (p : Point). p.at) _ (points_from ts (first + 1) n) _ ∙ ap (spot_at ts) (let z : first + 1 + n ≡ first + (1 + suc n) - 1 = omega arith in z)

  turns-later : (n : ℕ) (s : Stock) → turns (crescent_by j.grid j.r ts first) 1 n s ≡ later_logged j (spot_at ts first) (points_from ts (first + 1) n) s
  unfolding turns crescent_by passes cuts_from
  turns-later zero s = refl
  turns-later (suc n) s =
      ap (clear_after j.grid (spot_at ts (first + (1 + n) - 1)) (spot_at ts (first + (1 + n))) j.r) (turns-later n s)
      ∙ ap (λ (k : ℕ). clear_after j.grid (spot_at ts (first + (1 + n) - 1)) (spot_at ts k) j.r (later_logged j (spot_at ts first) (points_from ts (first + 1) n) s))
      (let z : first + (1 + n) ≡ first + 1 + n = omega arith in z)
      ∙ ap (λ (p : Vec2). clear_after j.grid p (spot_at ts (first + 1 + n)) j.r (later_logged j (spot_at ts first) (points_from ts (first + 1) n) s)) (sym (last-from n))
      ∙ later_more j (spot_at ts first) (points_from ts (first + 1) n) (point_at ts (first + 1 + n)) s

  -- a pass of n + 1 points
  pub pass_by_lem : (n : ℕ) (s : Stock) → pass_by j.grid j.r ts first (n + 1) s ≡ pass_logged j (point_at ts first ∷ points_from ts (first + 1) n) s
  unfolding pass_by loop cuts_of
  pass_by_lem n s = ap (λ (k : ℕ). turns (crescent_by j.grid j.r ts first) 1 k s) (let z : n + 1 - 1 ≡ n = omega arith in z) ∙ turns-later n s
