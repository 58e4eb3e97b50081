-- What a round fixes in the code, and what is lent to work out the field. Definitions only.
use Rattle.std.specs.Prelude.{◌≡◌, Bool, true, false, Option, Some, None, IfSome, List, length, Float, ℕ, ◌*◌, ◌≤◌}
use Rattle.numbers.specs.Narrow.{narrow_of}
use Rattle.distance.specs.declared.limits.Threshold.{Threshold}
use Rattle.setup.specs.Tables.{Tables}
use Rattle.numbers.specs.Circle.{tau}
use Rattle.setup.specs.declared.Setup.{Setup}
use Rattle.distance.specs.declared.limits.Limit.{Limit}
use Rattle.raster.specs.Grid.{Over, center_of}
use Rattle.raster.specs.Contact.{samples_of, hits_of}
use Rattle.field.specs.Field.{high_of, low_of, reach_of}

abbrev pub bound : Option Float → Bool → Float → Threshold
bound scale strict x = record { scale = scale; strict = strict; x = x }

-- what a round fixes, of a setup: the tests of distances, and the full turn
pub record Gauged (s : Setup) (to-far to-deep to-near : Limit) (turn : Float) : Type 0 where
  pub far : to-far.threshold ≡ bound (Some s.grid.cell) false (high_of s)
  pub deep : to-deep.threshold ≡ bound (Some s.grid.cell) true (low_of s)
  pub near : to-near.threshold ≡ bound None false (reach_of s)
  pub full : turn ≡ narrow_of tau

-- the hits of the rim around the centre of cell (i, j), where they are told
pub record KnownAt (s : Setup) (map : List ℕ) (i j : ℕ) (k : Option ℕ) : Type 0 where
  pub hits : IfSome k (λ n. n ≡ hits_of s.grid map (center_of s.grid i j) s.r (samples_of s.samples))

-- the cells' slices are lent, and the tool's tables
pub record Sensing (s : Setup) (map allowed stock near : List ℕ) (rim : List Float) (n : ℕ) : Type 0 where
  pub over : Over s.grid (length map)
  pub allowed-long : s.grid.ny * s.grid.nx ≤ length allowed
  pub stock-long : s.grid.ny * s.grid.nx ≤ length stock
  pub near-long : s.grid.ny * s.grid.nx ≤ length near
  pub field-long : s.grid.ny * s.grid.nx ≤ n
  pub tables : Tables s rim
