-- The starts of a piece tried in turn, as `cut_piece` of adaptive.rs has it: the first that is worth it ends the tries, and so do triples that do not fit.
-- The list of events is carried along. Definitions only.
use Rattle.std.specs.Prelude.{ℕ, ◌+◌, ◌*◌, ◌≤◌, Bool, false, cond, ◌||◌, List, [], ◌∷◌, ◌++◌, length, Float}
use Rattle.std.proofs.Math.Option.{Option, none, some}
use Rattle.loops.specs.Loop.{loop, Run, on, out, turn}
use Rattle.geom.specs.declared.vec2.Vec2.{Vec2}
use Rattle.setup.specs.Layout.{traced_from, guide_from}
use Rattle.setup.specs.Place.{free_at}
use Rattle.setup.specs.declared.Setup.{Setup}
use Rattle.events.specs.Events.{Event, tried, withdrawn}
use Rattle.events.specs.Read.{points_from}
use Rattle.passes.specs.Shifts.{sat_add}
use Rattle.passes.specs.Guide.{walk_of, blend_of}
use Rattle.passes.specs.Start.{Place, near_of, start_of}
use Rattle.passes.specs.Attempt.{Attempted, att, Outcome, oc, start_by}

-- ---- the starts

-- four starts round a closed piece, the first at the point nearest to the tool; an open one has its own
unfoldable pub starts_of : Bool → ℕ
starts_of closed = cond closed 4 1

unfoldable pub start_at : List Vec2 → Bool → Place → ℕ → ℕ
start_at pts closed pos k = cond closed (start_of (near_of pts pos) (length pts) k) 0

-- a closed piece is walked round to where it began
unfoldable pub guide_long : ℕ → Bool → ℕ
guide_long m closed = cond closed (m + 1) m

unfoldable pub guide_of : List Vec2 → Bool → ℕ → List Vec2
guide_of pts closed start = walk_of pts start (guide_long (length pts) closed)

-- ---- the tries

-- what the last try left, with the work of all of them; and the events
pub record Tries : Type 0 where
  pub outcome : Outcome
  pub events : List Event

abbrev pub ts : Outcome → List Event → Tries
ts c es = record { outcome = c; events = es }

abbrev pub worked : ℕ → Attempted → Attempted
worked w a = att a.full a.worth a.points a.removed (sat_add w a.work)

-- a pass that was tried, with the cells that it removed, is withdrawn unless it is worth it; without a guide none was
unfoldable pub try_events : ℕ → Option (List Vec2) → Outcome → List Event
try_events kept none r = []
try_events kept (some pts) r = tried (points_from r.out kept r.attempt.points) r.attempt.removed ∷ cond r.attempt.worth [] (withdrawn ∷ [])

unfoldable pub tried_end : Run Tries Tries → Tries
tried_end (on t) = t
tried_end (out t) = t

module _ (s : Setup) (allowed : Vec2 → Bool) (pts : List Vec2) (closed : Bool) (pos : Place) (kept : ℕ) (m : List ℕ) where
  unfoldable pub guide_at : ℕ → Option (List Vec2)
  guide_at k = blend_of s allowed (free_at s m) (guide_of pts closed (start_at pts closed pos k))

  -- the try from start k, after the others
  unfoldable pub try_at : ℕ → Tries → Tries
  try_at k t =
      let c = t.outcome in
      let r = start_by s allowed (guide_at k) kept m c.log c.out in
      ts (oc r.log r.out (worked c.attempt.work r.attempt)) (t.events ++ try_events kept (guide_at k) r)

  unfoldable pub try_step : ℕ → Tries → Run Tries Tries
  try_step k t = let a = (try_at k t).outcome.attempt in cond (a.full || a.worth) (out (try_at k t)) (on (try_at k t))

  unfoldable pub tries_of : List ℕ → List Float → Tries
  tries_of l o = tried_end (loop (turn try_step) 0 (starts_of closed) (on (ts (oc l o (att false false 0 0 0)) [])))

-- ---- what callers keep

-- the piece of m points lies among those that were traced, in the workspace of n cells
pub record Among (n from m : ℕ) : Type 0 where
  pub low : traced_from n ≤ from
  pub high : from + 2 * m ≤ guide_from n
  pub some : 1 ≤ m
