-- `find_helix` of adaptive.rs: place after place is tried, and given up where no radius serves. The list of events is carried along. Definitions only.
use Rattle.std.specs.Prelude.{ℕ, ◌/◌, ◌%◌, List, [], ◌∷◌, ◌++◌, Option as Maybe, Some, None, Float}
use Rattle.std.proofs.Math.Option.{Option, none, some}
use Rattle.std.specs.Float.{nan, binary64}
use Rattle.std.specs.Float.Ieee.{sub, mul}
use Rattle.loops.specs.Loop.{loop, Run, on, out, turn}
use Rattle.numbers.specs.Order.{min_of}
use Rattle.numbers.specs.Small.{f2, c01}
use Rattle.geom.specs.declared.vec2.Vec2.{Vec2}
use Rattle.raster.specs.Grid.{center_of}
use Rattle.setup.specs.Place.{cells_of}
use Rattle.setup.specs.declared.Setup.{Setup}
use Rattle.events.specs.Chunk.{Spot, Entry, Job}
use Rattle.events.specs.Helix.{radius_of}
use Rattle.events.specs.Events.{Event, given_up}
use Rattle.passes.specs.Tried.{job_at}
use Rattle.flood.specs.Place.{farthest_of}
use Rattle.flood.specs.Flood.{flood_of}
use Rattle.flood.specs.declared.place.Far.{Far}
use Rattle.helix.specs.declared.search.Attempt.{Attempt}
use Rattle.helix.specs.declared.search.Attempt.TheVariants.{Fits, GivenUp, Nothing as NoPlace}

-- 0.1 * 2.0 * r
unfoldable pub least_of : Setup → Float
least_of s = mul binary64 (mul binary64 c01 f2) s.r

-- helix_pref.min(d - keep - 2.0 * cell), d from the walls
unfoldable pub widest_of : Setup → Float → Float → Float
widest_of s pref d = min_of pref (sub binary64 (sub binary64 d s.keep.r) (mul binary64 f2 s.grid.cell))

-- ---- the judges of a place

module _ (s : Setup) (wall : List Float) (allowed reach : List ℕ) (pref : Float) where
  abbrev pub far_of : List ℕ → List ℕ → Maybe Far
  far_of m gone = farthest_of m allowed reach gone wall (cells_of s)

  -- the centre of the farthest cell
  unfoldable pub spot_of : Maybe Far → Option Spot
  spot_of None = none
  spot_of (Some f) = let c = f.cell in some (record { centre = center_of s.grid (c.0 % s.grid.nx) (c.0 / s.grid.nx); widest = widest_of s pref f.distance })

  unfoldable pub place_of : List ℕ → List ℕ → Option Spot
  place_of m gone = spot_of (far_of m gone)

  -- the connected open cells round the farthest
  unfoldable pub flood_at : Maybe Far → List ℕ → List ℕ → List ℕ
  flood_at None m gone = gone
  flood_at (Some f) m gone = flood_of s.grid m reach f.cell.0 gone

  unfoldable pub abandon_of : List ℕ → List ℕ → List ℕ
  abandon_of m gone = flood_at (far_of m gone) m gone

  abbrev pub entry_of : Entry
  entry_of = record { place = place_of; abandon = abandon_of; least = least_of s }

-- ---- the radius at a place

-- it hangs on where the tool may go and on the least radius, and on nothing else of a job
abbrev pub bare_job : Setup → List Float → List Float → List ℕ → Job
bare_job s wall vs lens = job_at s wall vs lens [] nan (record { place = λ m gone. none; abandon = λ m gone. gone; least = least_of s })

abbrev pub radius_at : Setup → List Float → List Float → List ℕ → Vec2 → Float → Option Float
radius_at s wall vs lens c widest = radius_of (bare_job s wall vs lens) c widest

abbrev pub radius_by : Maybe Float → Option Float
radius_by None = none
radius_by (Some rad) = some rad

-- ---- the places, one after another

pub record Seeking : Type 0 where
  pub gone : List ℕ
  pub events : List Event

-- centre and radius of a helix, if there is one, and how many places were given up before
abbrev pub Found : Type 0
Found = Maybe (Vec2 × Float) × ℕ

-- what the search comes to
pub record Sought : Type 0 where
  pub gone : List ℕ
  pub events : List Event
  pub found : Found

abbrev pub sk : List ℕ → List Event → Seeking
sk gone es = record { gone = gone; events = es }

abbrev pub so : List ℕ → List Event → Found → Sought
so gone es f = record { gone = gone; events = es; found = f }

-- after 64 places no more is tried
unfoldable pub sought_end : Run Seeking Sought → Sought
sought_end (on t) = so t.gone t.events (None, 64)
sought_end (out q) = q

unfoldable pub fitting : Vec2 → Option Float → Attempt
fitting c none = GivenUp c
fitting c (some rad) = Fits c rad

module _ (s : Setup) (wall vs : List Float) (lens allowed reach : List ℕ) (pref : Float) where
  unfoldable pub attempt_at : Option Spot → Attempt
  attempt_at none = NoPlace
  attempt_at (some p) = fitting p.centre (radius_at s wall vs lens p.centre p.widest)

  -- the place that the map m and the cells given up have
  unfoldable pub attempt_of : List ℕ → List ℕ → Attempt
  attempt_of m gone = attempt_at (place_of s wall allowed reach pref m gone)

  -- the cells given up after an attempt
  unfoldable pub gone_by : Attempt → List ℕ → List ℕ → List ℕ
  gone_by NoPlace m gone = gone
  gone_by (Fits c rad) m gone = gone
  gone_by (GivenUp c) m gone = abandon_of s wall allowed reach pref m gone

  module _ (m : List ℕ) where
    -- the attempt after i places that were given up
    unfoldable pub step_by : Attempt → ℕ → Seeking → Run Seeking Sought
    step_by NoPlace i t = out (so t.gone t.events (None, i))
    step_by (Fits c rad) i t = out (so t.gone t.events (Some (c, rad), i))
    step_by (GivenUp c) i t = on (sk (abandon_of s wall allowed reach pref m t.gone) (t.events ++ (given_up c ∷ [])))

    unfoldable pub seek_step : ℕ → Seeking → Run Seeking Sought
    seek_step i t = step_by (attempt_of m t.gone) i t

    unfoldable pub seek_of : List ℕ → Sought
    seek_of gone = sought_end (loop (turn seek_step) 0 64 (on (sk gone [])))
