-- A region filled in: a cell is set exactly when its centre is in the region by `contains`. Definitions only.
use Rattle.std.specs.Prelude.{ℕ, ◌+◌, ◌*◌, cond, List, set, Float}
use Rattle.loops.specs.Loop.{loop}
use Rattle.geom.specs.Region.{contains_of}
use Rattle.geom.specs.declared.region.Region.{Region}
use Rattle.raster.specs.Grid.{center_of}
use Rattle.raster.specs.declared.grid.Grid.{Grid}

-- cell (i, j): set where its centre is in the region, else as it was
unfoldable pub fill_cell : Grid → List Float → List ℕ → Region → ℕ → ℕ → List ℕ → List ℕ
fill_cell g vs lens region j i m = cond (contains_of vs lens region (center_of g i j)) (set m (j * g.nx + i) 1) m

unfoldable pub fill_row : Grid → List Float → List ℕ → Region → ℕ → List ℕ → List ℕ
fill_row g vs lens region j m = loop (fill_cell g vs lens region j) 0 g.nx m

unfoldable pub fill_region : Grid → List Float → List ℕ → Region → List ℕ → List ℕ
fill_region g vs lens region m = loop (fill_row g vs lens region) 0 g.ny m
