-- What holds of every Setup that is made from an engagement of 1 to below 180 degrees: the guard is below the limit, contact is measured as document 01 has it;
-- and, of any numbers, the samples are 64 to 2,048. Assumes nothing.
use mathlib.Core.Path.{◌≡◌, refl}
use mathlib.Core.Bool.{Bool, true}
use Prim.Native.Nat.{◌≤◌}
use native.Mathlib.Omega.{arith}
use lib.Ieee.{Float, lt, le}
use Rattle.numbers.specs.Bound.{bound_of}
use Rattle.numbers.specs.declared.bound.Bound.{Bound}
use Rattle.numbers.proofs.BoundLaws.{bounds_of, bound_is}
use Rattle.numbers.specs.Circle.{radians_of}
use Rattle.numbers.specs.Small.{f1, f180}
use Rattle.geom.specs.declared.region.Region.{Region}
use Rattle.raster.specs.declared.grid.Grid.{Grid}
use Rattle.setup.specs.Limits.{samples_for}
use Rattle.setup.specs.Made.{decided, setup_of, Measured}
use Rattle.setup.specs.declared.Setup.{Setup}
use Rattle.setup.proofs.LimitLaws.{guard-below, target_at_most}

pub decided_is : (r : Float) (b : Bound) → b.r ≡ r → b.below ≡ bound_of r → b ≡ decided r
unfolding decided
decided_is r b e f = bound_is b (record { r = r; below = bound_of r; bounds = bounds_of r }) e f

pub samples-few : (r cell : Float) → (64 ≤ samples_for r cell) × (samples_for r cell ≤ 2048)
unfolding samples_for
samples-few r cell = (omega arith, omega arith)

module _ (g : Grid) (region : Region) (diameter leave degrees : Float) (down : Bool) where
  abbrev made : Setup
  made = setup_of g region diameter leave degrees down

  pub made_samples : (64 ≤ made.samples) × (made.samples ≤ 2048)
  unfolding setup_of
  made_samples = samples-few _ _

  module _ (low : le f1 degrees ≡ true) (high : lt degrees f180 ≡ true) where
    -- every contact at most the guard is below the limit
    pub made_guard : lt made.guard (radians_of degrees) ≡ true
    unfolding setup_of
    made_guard = guard-below degrees low high _ _

    pub made_measured : Measured made
    unfolding setup_of
    made_measured = record { wide = refl; below = target_at_most degrees low high _ _ }
