-- What the steps of the start leave in the workspace's regions (setup, specs/Layout.antt). Definitions only.
use Rattle.std.specs.Prelude.{◌≡◌, Bool, cond, not, ◌&&◌, List, ℕ, ◌+◌, ◌*◌, ◌≤◌, get_or, replicate, eqb, Float}
use Rattle.std.specs.Float.{binary64}
use Rattle.std.specs.Float.Ieee.{add, mul, lt}
use Rattle.geom.specs.Region.{Held}
use Rattle.distance.specs.Rooted.{rooted_of}
use Rattle.distance.specs.Limits.{passes_of}
use Rattle.distance.specs.declared.limits.Threshold.{Threshold}
use Rattle.raster.specs.Grid.{Sides}
use Rattle.raster.specs.declared.grid.Grid.{Grid}
use Rattle.setup.specs.Layout.{run, map_in, allowed_in, dirty_in}
use Rattle.setup.specs.Place.{cells_of}
use Rattle.setup.specs.Tables.{Tables}
use Rattle.setup.specs.declared.Setup.{Setup}
use Rattle.links.specs.Path.{wall_in, tables_in}
use Rattle.workspace.specs.Standing.{reach_in, abandoned_in}
use Rattle.entry.specs.Regions.{pocket_of}
use Rattle.start.specs.Start.{inside_of, add_regions, stock_of, walls_of, flag, clear_at, allowed_of, reach_of}

-- the slices are lent for n cells
pub record Room (n b u w : ℕ) : Type 0 where
  pub bytes : 8 * n ≤ b
  pub words : 32 * n + 8192 ≤ u
  pub doubles : 32 * n + 8192 ≤ w

-- the cells inside the region
abbrev pub inside_in : ℕ → List ℕ → List ℕ
inside_in n b = run 5 n b

-- the byte of the starting stock, of those inside and in a stock region
unfoldable pub stock_byte : Bool → ℕ → ℕ → ℕ
stock_byte whole inside stock = cond whole inside (cond (eqb stock 1) inside 0)

abbrev pub stock_at : Bool → List ℕ → List ℕ → ℕ → ℕ
stock_at whole inside stock k = stock_byte whole (get_or inside k 0) (get_or stock k 0)

-- the regions are filled; those of the stock, where there are any, in the place of the cells that are given up
pub record Filled (g : Grid) (whole : Bool) (vs : List Float) (lens regions b : List ℕ) : Type 0 where
  pub inside : inside_in (g.ny * g.nx) b ≡ inside_of g vs lens (pocket_of lens regions)
  pub stock : abandoned_in (g.ny * g.nx) b ≡ cond whole (replicate (g.ny * g.nx) 0) (add_regions g vs lens regions (replicate (g.ny * g.nx) 0))
  pub dirty : dirty_in (g.ny * g.nx) b ≡ replicate (g.ny * g.nx) 0

-- the starting stock stands, and no cell is given up or dirty
pub record Stocked (g : Grid) (whole : Bool) (vs : List Float) (lens regions b : List ℕ) : Type 0 where
  pub map : map_in (g.ny * g.nx) b ≡ stock_of whole g vs lens regions
  pub inside : inside_in (g.ny * g.nx) b ≡ inside_of g vs lens (pocket_of lens regions)
  pub abandoned : abandoned_in (g.ny * g.nx) b ≡ replicate (g.ny * g.nx) 0
  pub dirty : dirty_in (g.ny * g.nx) b ≡ replicate (g.ny * g.nx) 0

-- ---- a cell, by what the code reads of it

-- the wall distance that a square stands for
abbrev pub length_at : Float → List ℕ → ℕ → Float
length_at cell squares k = mul binary64 (rooted_of (get_or squares k 0)) cell

-- whether the tool may be at cell k
unfoldable pub may_byte : Setup → List Float → List ℕ → ℕ → ℕ → Float → ℕ
may_byte s vs lens k inside wall = flag (eqb inside 1 && (not (lt (add binary64 wall s.grid.cell) s.keep.r) && clear_at s vs lens k))

-- whether a cell is stock and within a bound of where the tool may go
unfoldable pub near_byte : Threshold → ℕ → ℕ → ℕ
near_byte t start square = flag (eqb start 1 && passes_of t square)

abbrev pub near_at : Threshold → List ℕ → List ℕ → ℕ → ℕ
near_at t start squares k = near_byte t (get_or start k 0) (get_or squares k 0)

-- what the exact test asks for
pub record Placed (s : Setup) (vs : List Float) (lens : List ℕ) : Type 0 where
  pub sides : Sides s.grid
  pub held : Held vs lens s.region

-- what the tool can do is worked out from the stock and from what is inside
pub record Reached (s : Setup) (vs : List Float) (lens b b' : List ℕ) (w' : List Float) : Type 0 where
  pub wall : wall_in s w' ≡ walls_of s.grid (inside_in (cells_of s) b)
  pub allowed : allowed_in (cells_of s) b' ≡ allowed_of s vs lens (inside_in (cells_of s) b) (walls_of s.grid (inside_in (cells_of s) b))
  pub reach : reach_in (cells_of s) b' ≡ reach_of s (map_in (cells_of s) b) (allowed_of s vs lens (inside_in (cells_of s) b) (walls_of s.grid (inside_in (cells_of s) b)))
  pub map : map_in (cells_of s) b' ≡ map_in (cells_of s) b
  pub abandoned : abandoned_in (cells_of s) b' ≡ abandoned_in (cells_of s) b
  pub dirty : dirty_in (cells_of s) b' ≡ dirty_in (cells_of s) b

-- the tool's tables stand, and the wall distances as before
pub record Tabled (s : Setup) (w w' : List Float) : Type 0 where
  pub tables : Tables s (tables_in s w')
  pub wall : wall_in s w' ≡ wall_in s w
