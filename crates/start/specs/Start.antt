-- What `Planner::new` of adaptive.rs works out from a job before the first round: the stock, the wall distances, where the tool may go and what it can reach.
-- Maps are by cell number, a byte a cell, 0 or 1. Definitions only.
use Rattle.std.specs.Prelude.{Bool, cond, not, ◌&&◌, List, ℕ, ◌*◌, ◌/◌, ◌%◌, ◌≡◌, length, get_or, replicate, eqb, Float}
use Rattle.std.specs.Float.{nan, binary64}
use Rattle.std.specs.Float.Ieee.{add, sub, mul, lt, le}
use Rattle.loops.specs.Loop.{loop}
use Rattle.numbers.specs.Small.{half}
use Rattle.geom.specs.Region.{contains_of}
use Rattle.geom.specs.Segment.{any_within}
use Rattle.geom.specs.declared.region.Region.{Region}
use Rattle.distance.specs.Nearest.{listed}
use Rattle.distance.specs.Rooted.{distance_transform}
use Rattle.raster.specs.Grid.{center_of}
use Rattle.filling.specs.Fill.{fill_region}
use Rattle.raster.specs.Stock.{intersection}
use Rattle.raster.specs.declared.grid.Grid.{Grid}
use Rattle.setup.specs.Layout.{map_in, allowed_in, dirty_in, log_in}
use Rattle.setup.specs.Place.{cells_of}
use Rattle.setup.specs.declared.Setup.{Setup}
use Rattle.links.specs.Path.{wall_in}
use Rattle.workspace.specs.Standing.{reach_in, abandoned_in, Standing}
use Rattle.entry.specs.Regions.{region_at, pocket_of}

-- ---- stock

-- the cells inside a region
unfoldable pub inside_of : Grid → List Float → List ℕ → Region → List ℕ
inside_of g vs lens region = fill_region g vs lens region (replicate (g.ny * g.nx) 0)

-- for st in stock { s.fill_region(st, true) }
unfoldable pub add_region : Grid → List Float → List ℕ → List ℕ → ℕ → List ℕ → List ℕ
add_region g vs lens regions k m = fill_region g vs lens (region_at lens regions k) m

unfoldable pub add_regions : Grid → List Float → List ℕ → List ℕ → List ℕ → List ℕ
add_regions g vs lens regions m = loop (add_region g vs lens regions) 1 (length regions) m

-- the whole pocket, or what the stock regions share with it; of an empty list of stock regions, nothing
unfoldable pub stock_of : Bool → Grid → List Float → List ℕ → List ℕ → List ℕ
stock_of whole g vs lens regions =
    let inside = inside_of g vs lens (pocket_of lens regions) in
    cond whole inside (intersection inside (add_regions g vs lens regions (replicate (g.ny * g.nx) 0)))

-- ---- wall distances

-- distance_transform(&outside)[k] * cell; a cell is outside where its byte is 0
abbrev pub wall_at : Grid → List ℕ → ℕ → Float
wall_at g inside k = mul binary64 (get_or (distance_transform 0 inside g.nx g.ny) k nan) g.cell

unfoldable pub walls_of : Grid → List ℕ → List Float
walls_of g inside = listed (g.ny * g.nx) (wall_at g inside)

-- ---- where the tool may go, and what it reaches

abbrev pub flag : Bool → ℕ
flag b = cond b 1 0

-- !any_within(q, keep) && contains(q), at the centre of cell k
unfoldable pub clear_at : Setup → List Float → List ℕ → ℕ → Bool
clear_at s vs lens k =
    let q = center_of s.grid (k % s.grid.nx) (k / s.grid.nx) in
    not (any_within vs lens s.region q s.keep.r) && contains_of vs lens s.region q

-- inside, by the wall distance not sure to be too near (wall_dist[k] + cell < keep), and clear by the exact test
unfoldable pub may_at : Setup → List Float → List ℕ → List ℕ → List Float → ℕ → Bool
may_at s vs lens inside wall k =
    eqb (get_or inside k 0) 1 && (not (lt (add binary64 (get_or wall k nan) s.grid.cell) s.keep.r) && clear_at s vs lens k)

unfoldable pub allowed_of : Setup → List Float → List ℕ → List ℕ → List Float → List ℕ
allowed_of s vs lens inside wall = listed (cells_of s) (λ k. flag (may_at s vs lens inside wall k))

-- m.get(i, j) && d[k] * cell <= r - 0.5 * cell, with d = distance_transform(&allowed)
unfoldable pub reach_at : Setup → List ℕ → List ℕ → ℕ → Bool
reach_at s start allowed k =
    eqb (get_or start k 0) 1
    && le (mul binary64 (get_or (distance_transform 1 allowed s.grid.nx s.grid.ny) k nan) s.grid.cell) (sub binary64 s.r (mul binary64 half s.grid.cell))

unfoldable pub reach_of : Setup → List ℕ → List ℕ → List ℕ
reach_of s start allowed = listed (cells_of s) (λ k. flag (reach_at s start allowed k))

-- ---- of a job

abbrev pub pocket_in : Setup → List Float → List ℕ → List ℕ → List ℕ
pocket_in s vs lens regions = inside_of s.grid vs lens (pocket_of lens regions)

abbrev pub walls_in : Setup → List Float → List ℕ → List ℕ → List Float
walls_in s vs lens regions = walls_of s.grid (pocket_in s vs lens regions)

abbrev pub may_in : Setup → List Float → List ℕ → List ℕ → List ℕ
may_in s vs lens regions = allowed_of s vs lens (pocket_in s vs lens regions) (walls_in s vs lens regions)

-- what stands in the workspace before the first round
pub record Started (s : Setup) (whole : Bool) (vs : List Float) (lens regions b u : List ℕ) (w : List Float) : Type 0 where
  pub map : map_in (cells_of s) b ≡ stock_of whole s.grid vs lens regions
  pub wall : wall_in s w ≡ walls_in s vs lens regions
  pub allowed : allowed_in (cells_of s) b ≡ may_in s vs lens regions
  pub reach : reach_in (cells_of s) b ≡ reach_of s (stock_of whole s.grid vs lens regions) (may_in s vs lens regions)
  pub abandoned : abandoned_in (cells_of s) b ≡ replicate (cells_of s) 0
  pub dirty : dirty_in (cells_of s) b ≡ replicate (cells_of s) 0
  pub log : log_in (cells_of s) u ≡ replicate (cells_of s) 0
  pub standing : Standing s vs lens b u w
