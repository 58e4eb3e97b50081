-- The tests that planning makes of a tool's place, of the Planner's fields: the raster, the wall distance of each cell, the region, `keep`, the stock map.
-- Definitions only.
use Rattle.std.specs.Prelude.{ℕ, ◌+◌, ◌*◌, Bool, false, not, ◌&&◌, List, length, get_or, eqb, Float, None, Option, Some}
use Rattle.std.specs.Float.{nan, binary64}
use Rattle.std.specs.Float.Ieee.{add, sub, mul, le}
use Rattle.numbers.specs.Circle.{cos_of}
use Rattle.numbers.specs.Small.{f1, f2}
use Rattle.geom.specs.Region.{Held, contains_of}
use Rattle.geom.specs.Segment.{any_within}
use Rattle.geom.specs.declared.vec2.Vec2.{Vec2}
use Rattle.raster.specs.Grid.{Over, cell_of}
use Rattle.raster.specs.Stock.{count_disk}
use Rattle.raster.specs.Contact.{rim_contact}
use Rattle.raster.specs.declared.contact.Contact.{Contact}
use Rattle.raster.specs.declared.grid.Grid.{Grid}
use Rattle.setup.specs.declared.Setup.{Setup}

-- a raster's cells
abbrev pub cells_of : Setup → ℕ
cells_of s = s.grid.ny * s.grid.nx

-- wall_dist[k] + 2.0 * cell >= keep at the point's cell; off the raster no
abbrev pub wall_in : Grid → List Float → Float → Option (ℕ × ℕ) → Bool
wall_in g wall keep None = false
wall_in g wall keep (Some (i, j)) = le keep (add binary64 (get_or wall (j * g.nx + i) nan) (mul binary64 f2 g.cell))

unfoldable pub wall_at : Grid → List Float → Float → Vec2 → Bool
wall_at g wall keep p = wall_in g wall keep (cell_of g p)

-- .. && !any_within(keep) && contains
unfoldable pub allowed_at : Setup → List Float → List Float → List ℕ → Vec2 → Bool
allowed_at s wall vs lens p = wall_at s.grid wall s.keep.r p && (not (any_within vs lens s.region p s.keep.r) && contains_of vs lens s.region p)

-- no stock cell lies in the tool's disk
unfoldable pub free_at : Setup → List ℕ → Vec2 → Bool
free_at s m p = eqb (count_disk s.grid p s.r m) 0

-- contact of a tool of radius r: points of its rim hit, and sampled
unfoldable pub contact_at : Setup → List ℕ → Vec2 → Float → Contact
contact_at s m p r = rim_contact s.grid m p r s.samples

-- how deep a straight cut at the target bites: r * (1.0 - target.cos())
unfoldable pub bite_of : Setup → Float
bite_of s = mul binary64 s.r (sub binary64 f1 (cos_of s.target))

-- the wall distances and the region are lent
pub record Walls (s : Setup) (wall vs : List Float) (lens : List ℕ) : Type 0 where
  pub over : Over s.grid (length wall)
  pub held : Held vs lens s.region
