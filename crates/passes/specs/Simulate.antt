-- `simulate` of adaptive.rs, step by step. A loop is `loop`, one left from inside is `loop (turn ..)`. Definitions only.
use Rattle.std.specs.Prelude.{ℕ, ◌+◌, ◌-◌, ◌/◌, ◌≤◌, max, Bool, true, false, cond, List, length, get_or, leb, Float, Option, Some, None}
use Rattle.std.specs.Float.{nan, binary64}
use Rattle.std.specs.Float.Ieee.{to_unsigned, add, mul, div, lt}
use Rattle.loops.specs.Loop.{loop, Run, on, out, turn}
use Rattle.numbers.specs.Whole.{ceil_of}
use Rattle.numbers.specs.Small.{f2, half, quarter, tiny}
use Rattle.geom.specs.Vec.{v2, f0, difference, lerp_of, perp_of, distance_of, length_of, normalized_of}
use Rattle.geom.specs.declared.vec2.Vec2.{Vec2}
use Rattle.raster.specs.Grid.{Over}
use Rattle.numbers.specs.Cast.{float}
use Rattle.raster.specs.Log.{st, Ready, clear_after}
use Rattle.setup.specs.declared.Setup.{Setup}
use Rattle.events.specs.Lent.{triple_at, set_triple}
use Rattle.passes.specs.Shifts.{max_shift, search_of}
use Rattle.passes.specs.declared.shifts.Shift.{Shift}
use Rattle.passes.specs.declared.trial.Leg.{Leg}
use Rattle.passes.specs.declared.trial.Trial.{Trial}

-- where a list has no point
abbrev pub nowhere : Vec2
nowhere = v2 nan nan

-- ---- a leg: a straight part of the guide, its left (free) side and its samples

abbrev pub lg : Vec2 → Vec2 → Vec2 → ℕ → Leg
lg a b left n = record { a = a; b = b; left = left; n = n }

-- a leg without length has no samples; else ((a.distance(b) / h).ceil() as usize).max(1)
unfoldable pub leg_of : Float → Vec2 → Vec2 → Leg
leg_of h a b =
    let d = difference b a in
    cond (lt (length_of d) tiny) (lg a b d 0) (lg a b (perp_of (normalized_of d)) (max (to_unsigned 64 (ceil_of (div binary64 (distance_of a b) h))) 1))

-- sample k, from 1 on
unfoldable pub sample_of : Leg → ℕ → Vec2
sample_of l k = lerp_of l.a l.b (div binary64 (float k) (float l.n))

-- q.distance(prev) > 2.0 * h + max_shift
unfoldable pub gap_of : Float → Float → Vec2 → Vec2 → Bool
gap_of h most q prev = lt (add binary64 (mul binary64 f2 h) most) (distance_of q prev)

-- ---- the pass: map, log, triples, and the rest by value

pub record Pass : Type 0 where
  pub cells : List ℕ
  pub log : List ℕ
  pub out : List Float
  pub trial : Trial

abbrev pub ps : List ℕ → List ℕ → List Float → Trial → Pass
ps m l o t = record { cells = m; log = l; out = o; trial = t }

abbrev pub tr : Bool → ℕ → ℕ → ℕ → Vec2 → Float → Trial
tr full points removed work prev shift = record { full = full; points = points; removed = removed; work = work; prev = prev; shift = shift }

abbrev pub spent : ℕ → Pass → Pass
spent w p = ps p.cells p.log p.out (tr p.trial.full p.trial.points p.trial.removed w p.trial.prev p.trial.shift)

abbrev pub filled : Pass → Pass
filled p = ps p.cells p.log p.out (tr true p.trial.points p.trial.removed p.trial.work p.trial.prev p.trial.shift)

abbrev pub h_of : Setup → Float
h_of s = mul binary64 half s.grid.cell

abbrev pub step_of : Setup → Float
step_of s = mul binary64 quarter s.grid.cell

-- the crescent from the point before to q is cleared at r, and q is written behind the kept triples
unfoldable pub advance_of : Setup → ℕ → Vec2 → Float → Float → Pass → Pass
advance_of s kept q e x p =
    let t = p.trial in
    let c = clear_after s.grid t.prev q s.r (st p.cells p.log t.removed) in
    ps c.cells c.log (set_triple (kept + t.points) (triple_at q e) p.out) (tr t.full (t.points + 1) c.count t.work q x)

module _ (s : Setup) (allowed : Vec2 → Bool) (kept : ℕ) where
  -- by what the search found: no shift, a gap and no room each end the pass
  unfoldable pub went : Pass → Option Shift → Run Pass Pass
  went p None = out p
  went p (Some f) =
      cond (gap_of (h_of s) (max_shift s) f.at p.trial.prev) (out p)
      (cond (leb (length p.out / 3) (kept + p.trial.points)) (out (filled p))
      (on (advance_of s kept f.at f.angle f.shift p)))

  unfoldable pub sample_step : Leg → ℕ → Pass → Run Pass Pass
  sample_step l k p =
      let r = search_of s allowed p.cells (sample_of l (k + 1)) l.left (step_of s) (max_shift s) p.trial.shift p.trial.work in
      went (spent r.work p) r.found

  -- a leg: what leaves the loop over its samples leaves the loop over the legs too
  unfoldable pub along_leg : Leg → Pass → Run Pass Pass
  along_leg l p = loop (turn (sample_step l)) 0 l.n (on p)

  -- the leg that ends at point k of the guide
  unfoldable pub leg_step : List Vec2 → ℕ → Pass → Run Pass Pass
  leg_step pts k p = along_leg (leg_of (h_of s) (get_or pts (k - 1) nowhere) (get_or pts k nowhere)) p

unfoldable pub ended : Run Pass Pass → Pass
ended (on p) = p
ended (out p) = p

-- the first point is written with contact 0.0
unfoldable pub begun : Vec2 → ℕ → List ℕ → List ℕ → List Float → Pass
begun q kept m l o = ps m l (set_triple kept (triple_at q f0) o) (tr false 1 0 0 q f0)

-- the pass along the guide pts on the map m with an empty log, behind `kept` triples of o; `full` where those of the pass do not fit
unfoldable pub simulate_of : Setup → (Vec2 → Bool) → List Vec2 → ℕ → List ℕ → List ℕ → List Float → Pass
simulate_of s allowed pts kept m l o =
    let q = get_or pts 0 nowhere in
    cond (leb (length o / 3) kept) (ps m l o (tr true 0 0 0 q f0))
    (ended (loop (turn (leg_step s allowed kept pts)) 1 (length pts) (on (begun q kept m l o))))

-- ---- what callers keep

-- the map covers the grid, the log has room for its stock, and the guide has a point
pub record Usable (s : Setup) (m l : List ℕ) (guide : List Float) : Type 0 where
  pub over : Over s.grid (length m)
  pub ready : Ready (st m l 0)
  pub point : 2 ≤ length guide

pub record Fit (s : Setup) (p : Pass) : Type 0 where
  pub over : Over s.grid (length p.cells)
  pub ready : Ready (st p.cells p.log p.trial.removed)
