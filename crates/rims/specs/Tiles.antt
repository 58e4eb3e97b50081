-- Tiles of 8 by 8 cells of a map: bytes that tell where no stock is. Definitions only.
use Rattle.std.specs.Prelude.{ℕ, ◌+◌, ◌-◌, ◌*◌, ◌/◌, ◌%◌, ◌≤◌, ◌<◌, ◌≡◌, false, List, length, get_or, eqb, Float}
use Rattle.loops.specs.Cells.{number}
use Rattle.raster.specs.declared.grid.Grid.{Grid}
use Rattle.rims.specs.Boxes.{block_at}

-- how many tiles lie along n cells
unfoldable pub tiles_of : ℕ → ℕ
tiles_of n = (n + 7) / 8

-- of cell (i, j) the tile's number
unfoldable pub tile_at : Grid → ℕ → ℕ → ℕ
tile_at g i j = number (tiles_of g.nx) (i / 8) (j / 8)

-- Where the byte of a cell's tile is 0, neither the cell nor one at most 8 columns to its right and 8 rows above it is stock.
pub record Tiled (g : Grid) (map tiles : List ℕ) : Type 0 where
  pub long : tiles_of g.ny * tiles_of g.nx ≤ length tiles
  pub bare : (p q i j : ℕ) → p ≤ i → i ≤ p + 8 → i < g.nx → q ≤ j → j ≤ q + 8 → j < g.ny → get_or tiles (tile_at g p q) 0 ≡ 0 → eqb (get_or map (number g.nx i j) 0) 1 ≡ false

-- counted from cell (i, j), block b tells of a cell whose tile's byte is 0
pub record BareBlock (g : Grid) (tiles : List ℕ) (w : List Float) (at i j b : ℕ) : Type 0 where
  pub one : b < 255
  pub some : 0 < block_at w at b
  pub bare : get_or tiles (tile_at g (i + (block_at w at b - 1) % 4096) (j + (block_at w at b - 1) / 4096)) 0 ≡ 0

-- ---- marks: bytes that are 1

-- w becomes v, and what was marked is
pub record Keeps (w v : List ℕ) : Type 0 where
  pub long : length v ≡ length w
  pub kept : (k : ℕ) → get_or w k 0 ≡ 1 → get_or v k 0 ≡ 1

-- the columns in which the first n cells from number a on are stock are marked
pub record Gathered (map : List ℕ) (a n : ℕ) (cols : List ℕ) : Type 0 where
  pub at : (i : ℕ) → i < n → get_or map (a + i) 0 ≡ 1 → get_or cols i 0 ≡ 1

-- those with stock in one of the rows from a on below e are
pub record RowsGathered (g : Grid) (map : List ℕ) (a e : ℕ) (cols : List ℕ) : Type 0 where
  pub at : (i j : ℕ) → i < g.nx → j < g.ny → a ≤ j → j < e → get_or map (number g.nx i j) 0 ≡ 1 → get_or cols i 0 ≡ 1

-- tile (x, y) of rows of n is marked, and those to its left and below it are
pub record Marked (n x y : ℕ) (tiles : List ℕ) : Type 0 where
  pub at : (u v : ℕ) → u ≤ x → x ≤ u + 1 → v ≤ y → y ≤ v + 1 → get_or tiles (number n u v) 0 ≡ 1

-- the tiles of row y are so that have a marked column, the first e of them
pub record ColumnsMarked (n y : ℕ) (cols : List ℕ) (e : ℕ) (tiles : List ℕ) : Type 0 where
  pub at : (i : ℕ) → i / 8 < e → get_or cols i 0 ≡ 1 → Marked n (i / 8) y tiles

-- the tiles of the stock in the rows from a on below e are so
pub record StockMarked (g : Grid) (map : List ℕ) (a e : ℕ) (tiles : List ℕ) : Type 0 where
  pub at : (i j : ℕ) → i < g.nx → j < g.ny → a ≤ j → j < e → get_or map (number g.nx i j) 0 ≡ 1 → Marked (tiles_of g.nx) (i / 8) (j / 8) tiles
