-- Cells of a row that are asked about the walls together. Definitions only.
use Rattle.std.specs.Prelude.{◌≡◌, Bool, true, false, List, ℕ, ◌/◌, ◌%◌, ◌≤◌, ◌<◌, Float}
use Rattle.std.specs.Float.Ieee.{lt}
use Rattle.numbers.specs.Order.{is_finite}
use Rattle.geom.specs.Vec.{f0}
use Rattle.geom.specs.Region.{contains_of}
use Rattle.geom.specs.Segment.{any_within}
use Rattle.geom.specs.Apart.{Rooted}
use Rattle.geom.specs.declared.vec2.Vec2.{Vec2}
use Rattle.raster.specs.Grid.{center_of}
use Rattle.setup.specs.declared.Setup.{Setup}
use Rattle.start.specs.declared.blocks.Block.{Block}

-- centres rise along a row, and boxes tell what is within `keep`
pub record Plain (s : Setup) : Type 0 where
  pub x_finite : is_finite s.grid.origin.x ≡ true
  pub y_finite : is_finite s.grid.origin.y ≡ true
  pub cell_finite : is_finite s.grid.cell ≡ true
  pub positive : lt f0 s.grid.cell ≡ true
  pub rooted : Rooted s.keep.r

abbrev pub middle : Setup → ℕ → Vec2
middle s k = center_of s.grid (k % s.grid.nx) (k / s.grid.nx)

-- what a block says of its cells from k on
pub record Told (s : Setup) (vs : List Float) (lens : List ℕ) (k : ℕ) (b : Block) : Type 0 where
  pub none : b.apart ≡ true → (i : ℕ) → k ≤ i → i < b.upto → any_within vs lens s.region (middle s i) s.keep.r ≡ false

-- what is known of cell k before its centre is asked about: a byte 1 says that it is in the region, and `apart` that no wall is near it
pub record Known (s : Setup) (vs : List Float) (lens : List ℕ) (k byte : ℕ) (apart : Bool) : Type 0 where
  pub inside : byte ≡ 1 → contains_of vs lens s.region (middle s k) ≡ true
  pub none : apart ≡ true → any_within vs lens s.region (middle s k) s.keep.r ≡ false
