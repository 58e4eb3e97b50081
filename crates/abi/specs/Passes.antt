-- A pass as C has it.
use Rattle.std.specs.Prelude.{ℕ, ◌/◌, ◌≡◌, Bool, true, List, length, get_or, Float}
use Rattle.numbers.specs.declared.bound.Bound.{Bound}
use Rattle.geom.specs.Points.{points}
use Rattle.geom.specs.declared.region.Region.{Region}
use Rattle.raster.specs.declared.grid.Grid.{Grid}
use Rattle.setup.specs.Place.{allowed_at}
use Rattle.setup.specs.declared.Setup.{Setup}
use Rattle.passes.specs.Simulate.{ps, simulate_of}
use Rattle.passes.specs.declared.trial.Trial.{Trial}

-- a Setup of what a pass and the way to it read
abbrev pub passing : Grid → Region → Float → Float → Bound → Float → Float → ℕ → Bool → Setup
passing g region r wide keep target guard samples down = record {
  grid = g;
  region = region;
  r = r;
  r_guard = wide;
  keep = keep;
  target = target;
  guard = guard;
  samples = samples;
  keep_down = down;
}

-- The pass is that of a Setup with some bound of `keep`; points, cells removed and work are put down in that order.
pub record PassBy (g : Grid) (region : Region) (r wide keep target guard : Float) (samples : ℕ) (wall vs : List Float) (lens : List ℕ) (guide : List Float) (kept : ℕ) (m l : List ℕ) (o : List Float) (m' l' : List ℕ) (o' : List Float) (full : Bool) (told : List ℕ) : Type 0 where
  pub bound : Bound
  pub bounds : bound.r ≡ keep
  pub trial : Trial
  pub full_is : full ≡ trial.full
  pub points-is : get_or told 0 0 ≡ trial.points
  pub removed-is : get_or told 1 0 ≡ trial.removed
  pub work-is : get_or told 2 0 ≡ trial.work
  pub is : ps m' l' o' trial ≡ simulate_of (passing g region r wide bound target guard samples true) (allowed_at (passing g region r wide bound target guard samples true) wall vs lens) (points 0 (length guide / 2) guide) kept m l o
