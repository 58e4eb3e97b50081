-- What planning works out once of the tool: tables in one run of the f64. Definitions only.
use Rattle.std.specs.Prelude.{ℕ, ◌≤◌, List, length, Float}
use Rattle.std.specs.Float.{binary64}
use Rattle.std.specs.Float.Ieee.{sub}
use Rattle.loops.specs.Regions.{within}
use Rattle.raster.specs.Contact.{samples_of}
use Rattle.raster.specs.declared.grid.Grid.{Grid}
use Rattle.spans.specs.Spans.{Spanning}
use Rattle.rims.specs.Offsets.{Rims}
use Rattle.rims.specs.Boxes.{Boxed}
use Rattle.setup.specs.declared.Setup.{Setup}

-- the radius at which a link is judged, a cell less than the tool's
abbrev pub less_of : Setup → Float
less_of s = sub binary64 s.r s.grid.cell

-- of a tool of radius r with n samples: the directions of its rim and, from 4096 on, the cells under them around the centre of a cell; from 6144 on the columns of
-- its disk; from 8192 on the first number of each column and row; from 12544 and 14848 on the cells that a rim of the wider radius, and one a cell less
-- than r, can be over wherever the centre lies
pub record ToolTables (g : Grid) (r wide : Float) (n : ℕ) (w : List Float) : Type 0 where
  pub long : 8192 ≤ length w
  pub rims : Rims g r n w
  pub spans : Spanning g r (within 6144 8192 w)
  pub wider : Boxed g wide n 12544 w
  pub lesser : Boxed g (sub binary64 r g.cell) n 14848 w

abbrev pub Tables : Setup → List Float → Type 0
Tables s w = ToolTables s.grid s.r s.r_guard (samples_of s.samples) w
