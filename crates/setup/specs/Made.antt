-- What a Setup is, from the parameters of a job, its raster and its region, as `Planner::new` of adaptive.rs works it out. Definitions only.
use Rattle.std.specs.Prelude.{◌≡◌, Bool, true, Float}
use Rattle.std.specs.Float.{binary64}
use Rattle.std.specs.Float.Ieee.{add, mul, le}
use Rattle.numbers.specs.Bound.{bound_of}
use Rattle.numbers.specs.declared.bound.Bound.{Bound}
use Rattle.numbers.proofs.BoundLaws.{bounds_of}
use Rattle.numbers.specs.Circle.{radians_of}
use Rattle.numbers.specs.Small.{half, quarter}
use Rattle.geom.specs.declared.region.Region.{Region}
use Rattle.raster.specs.declared.grid.Grid.{Grid}
use Rattle.setup.specs.Limits.{guard_of, target_of, samples_for}
use Rattle.setup.specs.declared.Setup.{Setup}

-- the radius that contact is sampled at: r + 0.25 * cell
abbrev pub widened_by : Float → Float → Float
widened_by r cell = add binary64 r (mul binary64 quarter cell)

abbrev pub widened : Setup → Float
widened s = widened_by s.r s.grid.cell

-- a number with the bound that is found for it
unfoldable pub decided : Float → Bound
decided r = record { r = r; below = bound_of r; bounds = bounds_of r }

-- the radius is half the diameter; walls are kept at the radius and the stock to leave; the limit is the engagement in radians
unfoldable pub setup_of : Grid → Region → Float → Float → Float → Bool → Setup
setup_of g region diameter leave degrees down =
    let r = mul binary64 diameter half in
    let guard = guard_of (radians_of degrees) g.cell r in
    record {
      grid = g;
      region = region;
      r = r;
      r_guard = widened_by r g.cell;
      keep = decided (add binary64 r leave);
      target = target_of guard;
      guard = guard;
      samples = samples_for r g.cell;
      keep_down = down;
    }

-- contact is measured at the widened radius, and the target is at most the guard
pub record Measured (s : Setup) : Type 0 where
  pub wide : s.r_guard ≡ widened s
  pub below : le s.target s.guard ≡ true
