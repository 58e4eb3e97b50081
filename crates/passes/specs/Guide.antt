-- `blend_in` of adaptive.rs, step by step: the start of a guide is bent out to the free side. Definitions only.
use Rattle.std.specs.Prelude.{ℕ, zero, suc, ◌+◌, ◌-◌, ◌*◌, ◌≤◌, Bool, true, false, cond, ◌&&◌, List, [], ◌∷◌, ◌++◌, length, get_or, drop, eqb, ltb, Float}
use Rattle.std.proofs.Math.Option.{Option, none, some}
use Rattle.std.specs.Float.{binary64}
use Rattle.std.specs.Float.Ieee.{add, mul, div, le}
use Rattle.loops.specs.Loop.{loop, Run, on, out, turn}
use Rattle.loops.specs.Regions.{within, put}
use Rattle.numbers.specs.Order.{min_of}
use Rattle.numbers.specs.Circle.{pi, cos_of}
use Rattle.numbers.specs.Small.{f1, f2, f3, half}
use Rattle.geom.specs.Vec.{f0, sum, difference, scaled, perp_of, distance_of, normalized_of}
use Rattle.geom.specs.Points.{points}
use Rattle.geom.specs.declared.vec2.Vec2.{Vec2}
use Rattle.setup.specs.Place.{bite_of, allowed_at, free_at}
use Rattle.setup.specs.declared.Setup.{Setup}
use Rattle.passes.specs.Simulate.{nowhere}
use Rattle.passes.specs.declared.guide.Blend.{Blend}
use Rattle.std.specs.Prelude.{Option as RustOption, Some, None}

-- ---- the length, summed in order

unfoldable pub add_leg : List Vec2 → ℕ → Float → Float
add_leg pts k t = add binary64 t (distance_of (get_or pts (k - 1) nowhere) (get_or pts k nowhere))

unfoldable pub path_length : List Vec2 → Float
path_length pts = loop (add_leg pts) 1 (length pts) f0

-- ---- the guide bent out by `far` at its start, and by less up to the length `len`

-- the length so far, b being the point before p
unfoldable pub length_so_far : ℕ → Float → Vec2 → Vec2 → Float
length_so_far k s b p = cond (ltb 0 k) (add binary64 s (distance_of b p)) s

-- p + t.perp() * far * 0.5 * (1.0 + (PI * s / len).cos()), where t is (a - b).normalized()
unfoldable pub bent_at : Float → Float → Vec2 → Vec2 → Vec2 → Float → Vec2
bent_at len far p a b s =
    sum p (scaled (scaled (scaled (perp_of (normalized_of (difference a b))) far) half) (add binary64 f1 (cos_of (div binary64 (mul binary64 pi s) len))))

-- the length so far, and the points so far
pub record Bend : Type 0 where
  pub along : Float
  pub res : List Vec2

abbrev pub bd : Float → List Vec2 → Bend
bd s l = record { along = s; res = l }

-- the neighbours of point k; an end is its own
unfoldable pub after_of : List Vec2 → ℕ → Vec2
after_of pts k = cond (ltb (k + 1) (length pts)) (get_or pts (k + 1) nowhere) (get_or pts k nowhere)

unfoldable pub before_of : List Vec2 → ℕ → Vec2
before_of pts k = cond (ltb 0 k) (get_or pts (k - 1) nowhere) (get_or pts k nowhere)

-- from the length `len` on the points stay
unfoldable pub bend_step : Float → Float → List Vec2 → ℕ → Bend → Run Bend (List Vec2)
bend_step len far pts k t =
    let p = get_or pts k nowhere in
    let s = length_so_far k t.along (before_of pts k) p in
    cond (le len s) (out (t.res ++ drop k pts)) (on (bd s (t.res ++ (bent_at len far p (after_of pts k) (before_of pts k) s ∷ []))))

unfoldable pub bent_end : Run Bend (List Vec2) → List Vec2
bent_end (on t) = t.res
bent_end (out l) = l

unfoldable pub bent_of : Float → Float → List Vec2 → List Vec2
bent_of len far pts = bent_end (loop (turn (bend_step len far pts)) 0 (length pts) (on (bd f0 [])))

-- ---- the first of three ways out whose start is allowed and free

-- [bite + 2.0 * cell, 2.0 * bite + 3.0 * cell, 0.5 * r + bite]
unfoldable pub far_of : Float → Float → Float → ℕ → Float
far_of cell r bite k =
    cond (eqb k 0) (add binary64 bite (mul binary64 f2 cell))
    (cond (eqb k 1) (add binary64 (mul binary64 f2 bite) (mul binary64 f3 cell))
    (add binary64 (mul binary64 half r) bite))

abbrev pub blend : Float → Float → Blend
blend len far = record { len = len; far = far }

unfoldable pub chosen : Run (Unit {0}) (RustOption Blend) → RustOption Blend
chosen (on u) = None
chosen (out b) = b

-- (3.0 * r).min(0.5 * total)
unfoldable pub len_of : Setup → List Vec2 → Float
len_of s pts = min_of (mul binary64 f3 s.r) (mul binary64 half (path_length pts))

module _ (s : Setup) (allowed free : Vec2 → Bool) (pts : List Vec2) where
  unfoldable pub attempt : Float → ℕ → Unit {0} → Run (Unit {0}) (RustOption Blend)
  attempt len k u =
      let far = far_of s.grid.cell s.r (bite_of s) k in
      let q = get_or (bent_of len far pts) 0 nowhere in
      cond (allowed q && free q) (out (Some (blend len far))) (on tt)

  unfoldable pub choose_of : RustOption Blend
  choose_of = cond (le (len_of s pts) s.grid.cell) None (chosen (loop (turn (attempt (len_of s pts))) 0 3 (on tt)))

unfoldable pub blended : List Vec2 → RustOption Blend → Option (List Vec2)
blended pts None = none
blended pts (Some b) = some (bent_of b.len b.far pts)

unfoldable pub blend_of : Setup → (Vec2 → Bool) → (Vec2 → Bool) → List Vec2 → Option (List Vec2)
blend_of s allowed free pts = blended pts (choose_of s allowed free pts)

-- ---- a piece's points walked from point `start` on: a closed one ends where it began

-- the number of the point j places from the first, round
unfoldable pub round_to : ℕ → ℕ → ℕ
round_to m j = cond (ltb j m) j (j - m)

unfoldable pub walk_of : List Vec2 → ℕ → ℕ → List Vec2
walk_of pts start zero = []
walk_of pts start (suc i) = walk_of pts start i ++ (get_or pts (round_to (length pts) (start + i)) nowhere ∷ [])

-- ---- in the workspace: x and y of each point

unfoldable pub flat : List Vec2 → List Float
flat [] = []
flat (p ∷ ps) = p.x ∷ p.y ∷ flat ps

-- the points between two places of a slice
abbrev pub points_in : ℕ → ℕ → List Float → List Vec2
points_in at m w = points 0 m (within at (at + 2 * m) w)

-- a guide of m points is laid at `at`; none leaves the slice as it was
unfoldable pub laid : ℕ → ℕ → Option (List Vec2) → List Float → List Float
laid at m none w = w
laid at m (some l) w = put at (at + 2 * m) (flat l) w

-- what the guide's places hold after the try: the bent points, or those that were walked
unfoldable pub bent_or : List Vec2 → Option (List Vec2) → List Vec2
bent_or pts none = pts
bent_or pts (some l) = l

-- The guide of n points for the piece of m points at `from`, walked from its point `start` on and bent out, where a way out serves. Wall distances are the first
-- `cells` of the workspace.
abbrev pub blend_in : Setup → List Float → List ℕ → List ℕ → ℕ → ℕ → ℕ → ℕ → ℕ → List Float → Option (List Vec2)
blend_in s vs lens mp cells from m start n w = blend_of s (allowed_at s (within 0 cells w) vs lens) (free_at s mp) (walk_of (points_in from m w) start n)

-- the workspace with that guide, or the points that were walked, at `at`
abbrev pub laid_in : Setup → List Float → List ℕ → List ℕ → ℕ → ℕ → ℕ → ℕ → ℕ → ℕ → List Float → List Float
laid_in s vs lens mp cells from m start n at w =
    put at (at + 2 * n) (flat (bent_or (walk_of (points_in from m w) start n) (blend_in s vs lens mp cells from m start n w))) w

unfoldable pub is_some : {A : Type 0} → Option A → Bool
is_some none = false
is_some (some a) = true

-- the piece of m points at `from` lies before the guide of n points at `to`
pub record Ahead (from m start n to long : ℕ) : Type 0 where
  pub before : from + 2 * m ≤ to
  pub within : to + 2 * n ≤ long
  pub round : start + n ≤ 2 * m
