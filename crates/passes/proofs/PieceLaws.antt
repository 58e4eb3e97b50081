-- For the layer that cuts a piece: a guide that was laid is the one that is tried, its pass is the event `tried`, and undone for good it is `withdrawn`. Assumes nothing.
use mathlib.Core.Path.{◌≡◌, refl, sym, ap, ◌∙◌, subst}
use mathlib.Core.Bool.{Bool, true, false}
use mathlib.Core.List.{List}
use mathlib.Core.Option.{Option, none, some}
use Prim.Native.Nat.{ℕ, ◌+◌, ◌-◌, ◌*◌, ◌/◌, ◌≤◌}
use native.Mathlib.Omega.{arith}
use lib.ListN.{length, take, drop}
use lib.Ieee.{Float}
use Rattle.loops.specs.Regions.{Fits, within, put}
use Rattle.loops.proofs.Cases.{never}
use Rattle.loops.proofs.RegionLaws.{put_back, put-before, put-after, put-length}
use Rattle.geom.specs.Points.{points}
use Rattle.geom.specs.declared.vec2.Vec2.{Vec2}
use Rattle.raster.specs.Grid.{Over}
use Rattle.raster.specs.Log.{st, Ready}
use Rattle.raster.proofs.LogLaws.{Kept}
use Rattle.setup.specs.Layout.{guide_from, rim_from}
use Rattle.setup.specs.Place.{Walls, allowed_at, free_at, cells_of}
use Rattle.setup.specs.declared.Setup.{Setup}
use Rattle.links.specs.Path.{wall_in, Fitted}
use Rattle.events.specs.Chunk.{Point, Chunk, Entry, Job}
use Rattle.events.specs.Events.{state, step, withdrawn}
use Rattle.passes.specs.Simulate.{Pass, simulate_of}
use Rattle.passes.specs.Guide.{blend_of, walk_of, flat, points_in, bent_or, blend_in, laid_in, is_some, Ahead}
use Rattle.passes.specs.declared.attempt.Attempt.TheVariants.{Nothing}
use Rattle.passes.specs.Attempt.{answer_of, Answered, ans, answered, outcome_of, start_by}
use Rattle.setup.specs.Made.{Measured}
use Rattle.setup.specs.Tables.{Tables}
use Rattle.passes.specs.Tried.{job_at}
use Rattle.passes.proofs.LayLaws.{flat-length, points-flat, walk-length, part_half, part_some}
use Rattle.passes.proofs.BlendLaws.{blend_begins, blend_length}
use Rattle.passes.proofs.TriedLaws.{Tried, simulate_tried}

-- the part that is lent to `try_guide` holds the points that were laid there
pub guide_read : (at n : ℕ) (w : List Float) (l : List Vec2) → at + 2 * n ≤ length w → length l ≡ n
    → let part = take (at + 2 * n - at) (drop at (put at (at + 2 * n) (flat l) w)) in points 0 (length part / 2) part ≡ l
unfolding within
guide_read at n w l h e =
    let f : length (flat l) ≡ at + 2 * n - at = omega (arith, flat-length l, e) in
    let v : List Float = put at (at + 2 * n) (flat l) w in
    let g : length v ≡ length w = put-length at (at + 2 * n) w (flat l) (record { start = omega arith; end = h }) f in
    ap (λ (k : ℕ). points 0 k (take (at + 2 * n - at) (drop at v))) (part_half at n v (omega (arith, g)))
    ∙ ap (points 0 n) (put_back at (at + 2 * n) w (flat l) (record { start = omega arith; end = h }) f)
    ∙ points-flat l n e

-- a pass along a blended guide is checked: it begins where the tool may be and touches no stock
pub blend_tried : (s : Setup) (wall vs : List Float) (lens start : List ℕ) (limit : Float) (entry : Entry) → Measured s → (kept : ℕ) (m log : List ℕ) (o : List Float) → Ready (st m log 0)
    → (pts l : List Vec2) → blend_of s (allowed_at s wall vs lens) (free_at s m) pts ≡ some l
    → Tried (job_at s wall vs lens start limit entry) kept m log o (simulate_of s (allowed_at s wall vs lens) l kept m log o)
blend_tried s wall vs lens start limit entry M kept m log o R pts l e =
    simulate_tried s wall vs lens start limit entry M kept m log o R l (blend_begins s wall vs lens start limit entry m pts l e)

-- undone for good: the map before the pass, and an empty log
pub tried-withdrawn : (j : Job) (rows : List Chunk) (position : Option Vec2) (t : Option (List Point)) (gone m l : List ℕ) (u : Pass)
    → Kept (st m l 0) (st u.cells u.log u.trial.removed)
    → step j (state (st u.cells u.log u.trial.removed) rows position t none gone) withdrawn ≡ state (st m u.log 0) rows position none none gone
unfolding step
tried-withdrawn j rows position t gone m l u h = ap (λ (k : List ℕ). state (st k u.log 0) rows position none none gone) h.back

-- ---- for the proof of `try_start`

-- the guide that is left has as many points as were walked
pub bent_long : (s : Setup) (allowed free : Vec2 → Bool) (pts : List Vec2) (n : ℕ) → length pts ≡ n → (b : Option (List Vec2)) → blend_of s allowed free pts ≡ b → length (bent_or pts b) ≡ n
unfolding bent_or
bent_long s allowed free pts n e none d = e
bent_long s allowed free pts n e (some l) d = blend_length s allowed free pts l d ∙ e

-- in the workspace: the wall distances first, the piece, the guide behind it, the rim behind that
pub record Spread (s : Setup) (vs : List Float) (lens : List ℕ) (w : List Float) (cells rim from m start n at : ℕ) : Type 0 where
  pub walls : Walls s (within 0 cells w) vs lens
  pub round : Tables s (within rim (rim + (8 * cells + 8192)) w)
  pub ahead : Ahead from m start n at (length w)
  pub low : cells ≤ at
  pub high : at + 2 * n ≤ rim
  pub end : rim + (8 * cells + 8192) ≤ length w
  pub some : 1 ≤ n

module _ (s : Setup) (vs : List Float) (lens : List ℕ) (w : List Float) (cells rim from m start n at : ℕ) (A : Spread s vs lens w cells rim from m start n at) (mp : List ℕ) where
  abbrev trod : List Vec2
  trod = walk_of (points_in from m w) start n

  abbrev blend : Option (List Vec2)
  blend = blend_of s (allowed_at s (within 0 cells w) vs lens) (free_at s mp) trod

  module _ (w₁ : List Float) (W : w₁ ≡ put at (at + 2 * n) (flat (bent_or trod blend)) w) where
    long : length (bent_or trod blend) ≡ n
    long = bent_long s (allowed_at s (within 0 cells w) vs lens) (free_at s mp) trod n (walk-length (points_in from m w) start n) blend refl

    fits : Fits at (at + 2 * n) w
    fits = let a = A.ahead.within in record { start = omega arith; end = a }

    flat-long : length (flat (bent_or trod blend)) ≡ at + 2 * n - at
    flat-long = omega (arith, flat-length (bent_or trod blend), long)

    start-long : length w₁ ≡ length w
    start-long = ap length W ∙ put-length at (at + 2 * n) w (flat (bent_or trod blend)) fits flat-long

    wall-same : within 0 cells w₁ ≡ within 0 cells w
    wall-same = ap (within 0 cells) W ∙ put-before at (at + 2 * n) w (flat (bent_or trod blend)) fits flat-long 0 cells (omega arith) A.low

    pub start-walls : Walls s (within 0 cells w₁) vs lens
    start-walls = subst (λ (v : List Float). Walls s v vs lens) (sym wall-same) A.walls

    pub start-rim : Tables s (within rim (rim + (8 * cells + 8192)) w₁)
    start-rim = subst (Tables s) (sym (ap (within rim (rim + (8 * cells + 8192))) W ∙ put-after at (at + 2 * n) w (flat (bent_or trod blend)) fits flat-long rim (rim + (8 * cells + 8192)) A.high)) A.round

    pub start-point : 2 ≤ length (take (at + 2 * n - at) (drop at w₁))
    start-point = part_some at n w₁ (let a = A.ahead.within in omega (arith, start-long)) A.some

    guide_is : points 0 (length (take (at + 2 * n - at) (drop at w₁)) / 2) (take (at + 2 * n - at) (drop at w₁)) ≡ bent_or trod blend
    guide_is = ap (λ (v : List Float). points 0 (length (take (at + 2 * n - at) (drop at v)) / 2) (take (at + 2 * n - at) (drop at v))) W ∙ guide_read at n w (bent_or trod blend) A.ahead.within long

    by_blend : (b : Option (List Vec2)) (kept : ℕ) (l : List ℕ) (o : List Float) → true ≡ is_some b → outcome_of s (allowed_at s (within 0 cells w) vs lens) (bent_or trod b) kept mp l o ≡ start_by s (allowed_at s (within 0 cells w) vs lens) b kept mp l o
    unfolding bent_or start_by is_some
    by_blend none kept l o e = never (sym e)
    by_blend (some q) kept l o e = refl

    pub start-tried : (kept : ℕ) (l : List ℕ) (o : List Float) → true ≡ is_some blend → (c : Answered)
        → c ≡ answered (outcome_of s (allowed_at s (within 0 cells w₁) vs lens) (points 0 (length (take (at + 2 * n - at) (drop at w₁)) / 2) (take (at + 2 * n - at) (drop at w₁))) kept mp l o)
        → c ≡ answered (start_by s (allowed_at s (within 0 cells w) vs lens) blend kept mp l o)
    start-tried kept l o e c d =
        d ∙ ap (λ (q : List Vec2). answered (outcome_of s (allowed_at s (within 0 cells w₁) vs lens) q kept mp l o)) guide_is
        ∙ ap (λ (v : List Float). answered (outcome_of s (allowed_at s v vs lens) (bent_or trod blend) kept mp l o)) wall-same
        ∙ ap answered (by_blend blend kept l o e)

  none_by : (b : Option (List Vec2)) (kept : ℕ) (l : List ℕ) (o : List Float) → false ≡ is_some b → ans l o (Nothing 0) ≡ answered (start_by s (allowed_at s (within 0 cells w) vs lens) b kept mp l o)
  unfolding start_by is_some answered answer_of
  none_by none kept l o e = refl
  none_by (some q) kept l o e = never e

  pub start_none : (kept : ℕ) (l : List ℕ) (o : List Float) → false ≡ is_some blend → ans l o (Nothing 0) ≡ answered (start_by s (allowed_at s (within 0 cells w) vs lens) blend kept mp l o)
  start_none kept l o e = none_by blend kept l o e

-- where the layout has them
module _ (s : Setup) (vs : List Float) (lens mp : List ℕ) (w : List Float) (F : Fitted s vs lens mp w) (from m start n : ℕ) (A : Ahead from m start n (guide_from (cells_of s)) (rim_from (cells_of s))) (O : 1 ≤ n)
    (cells at : ℕ) (N : cells ≡ cells_of s) (T : at ≡ guide_from cells) where
  pub start_ahead : Ahead from m start n at (length w)
  start_ahead = record { before = omega (arith, A.before); within = omega (arith, A.within, F.long); round = A.round }

  pub start_lays : Walls s (within 0 cells w) vs lens × (Over s.grid (length mp) × (Ahead from m start n at (length w) × ((cells ≤ at) × (1 ≤ n))))
  start_lays = (subst (λ (k : ℕ). Walls s (within 0 k w) vs lens) (sym N) F.walls, (F.over, (start_ahead, (omega arith, O))))

  pub start_spread : (rim : ℕ) → rim ≡ rim_from cells → Spread s vs lens w cells rim from m start n at
  start_spread rim I = record {
    walls = start_lays.0;
    round = subst (λ (k : ℕ). Tables s (within rim (rim + (8 * k + 8192)) w)) (sym N)
        (subst (λ (k : ℕ). Tables s (within k (k + (8 * cells_of s + 8192)) w)) (let i : 24 * cells_of s ≡ rim = omega arith in i) F.tables);
    ahead = start_ahead;
    low = omega arith;
    high = omega (arith, A.within);
    end = omega (arith, F.long);
    some = O;
  }

  pub start-laid : (w₁ : List Float) → w₁ ≡ laid_in s vs lens mp cells from m start n at w → w₁ ≡ laid_in s vs lens mp (cells_of s) from m start n (guide_from (cells_of s)) w
  start-laid w₁ W =
      W ∙ ap (λ (k : ℕ). laid_in s vs lens mp cells from m start n k w) T ∙ ap (λ (k : ℕ). laid_in s vs lens mp k from m start n (guide_from k) w) N

  pub start_is : (kept : ℕ) (l : List ℕ) (o : List Float) (c : Answered) → c ≡ answered (start_by s (allowed_at s (within 0 cells w) vs lens) (blend_in s vs lens mp cells from m start n w) kept mp l o)
      → c ≡ answered (start_by s (allowed_at s (wall_in s w) vs lens) (blend_in s vs lens mp (cells_of s) from m start n w) kept mp l o)
  start_is kept l o c d = d ∙ ap (λ (k : ℕ). answered (start_by s (allowed_at s (within 0 k w) vs lens) (blend_in s vs lens mp k from m start n w) kept mp l o)) N
