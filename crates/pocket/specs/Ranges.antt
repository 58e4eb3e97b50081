-- Document 01's ranges for a leaf called alone. Definitions only.
use Rattle.std.specs.Prelude.{ℕ, ◌*◌, Bool, not, ◌&&◌, List, length, get_or, leb, Float}
use Rattle.std.specs.Float.{nan, binary64}
use Rattle.std.specs.Float.Ieee.{of_bits, le}
use Rattle.loops.specs.Loop.{any}
use Rattle.numbers.specs.Order.{is_finite, abs_of}
use Rattle.numbers.specs.Circle.{tau}
use Rattle.geom.specs.Vec.{f0}
use Rattle.geom.specs.declared.vec2.Vec2.{Vec2}
use Rattle.raster.specs.declared.grid.Grid.{Grid}
use Rattle.entry.specs.Questions.{f100}

-- 0.0001, 2000.0, 20000.0
abbrev pub c0001 : Float
c0001 = of_bits binary64 0x3f1a_36e2_eb1c_432d

abbrev pub f2000 : Float
f2000 = of_bits binary64 0x409f_4000_0000_0000

abbrev pub f20000 : Float
f20000 = of_bits binary64 0x40d3_8800_0000_0000

-- finite, and from lo to hi
unfoldable pub in_range : Float → Float → Float → Bool
in_range lo hi x = is_finite x && (le lo x && le x hi)

-- a coordinate: finite, within ±20,000
unfoldable pub coordinate_fit : Float → Bool
coordinate_fit x = is_finite x && le (abs_of x) f20000

unfoldable pub point_fit : Vec2 → Bool
point_fit p = coordinate_fit p.x && coordinate_fit p.y

abbrev pub strayed : List Float → ℕ → Bool
strayed vs k = not (coordinate_fit (get_or vs k nan))

unfoldable pub coordinates_fit : List Float → Bool
coordinates_fit vs = not (any (strayed vs) 0 (length vs))

-- a radius: 0 to 2,000
abbrev pub radius_fit : Float → Bool
radius_fit r = in_range f0 f2000 r

-- a cell: 0.0001 to 100
abbrev pub cell_fit : Float → Bool
cell_fit x = in_range c0001 f100 x

-- an angle: 0 to TAU
abbrev pub angle_fit : Float → Bool
angle_fit a = in_range f0 tau a

-- a number with a root: finite, 0 or more
unfoldable pub root_fit : Float → Bool
root_fit x = is_finite x && le f0 x

-- at most 4,096 samples
abbrev pub samples_fit : ℕ → Bool
samples_fit n = leb n 4096

-- a contact: 8 to 4,096 samples, and no more hits than those
unfoldable pub contact_fit : ℕ → ℕ → Bool
contact_fit hits samples = leb hits samples && (leb 8 samples && samples_fit samples)

-- a grid's corner and cell; a disk
unfoldable pub grid_fit : Grid → Bool
grid_fit g = point_fit g.origin && cell_fit g.cell

unfoldable pub disk_fit : Vec2 → Float → Bool
disk_fit c r = point_fit c && radius_fit r

-- sides of 1 to 4,096, at most 1,048,576 cells
unfoldable pub sides_fit : ℕ → ℕ → Bool
sides_fit nx ny = (leb 1 nx && leb nx 4096) && ((leb 1 ny && leb ny 4096) && leb (ny * nx) 1048576)
