-- A raster's cells: numbers, centres, and the cell at a point, operation by operation as in raster.rs. Definitions only.
use Rattle.std.specs.Prelude.{ℕ, ◌+◌, ◌*◌, ◌≤◌, ◌<◌, Bool, false, cond, not, ◌&&◌, ◌||◌, List, get_or, eqb, ltb, leb, Float, Err, None, Ok, Option, Result, Some}
use Rattle.std.specs.Float.{binary64}
use Rattle.std.specs.Float.Ieee.{to_unsigned, add, sub, mul, div, lt}
use Rattle.numbers.specs.Cast.{float}
use Rattle.numbers.specs.Order.{is_finite}
use Rattle.numbers.specs.Whole.{ceil_of}
use Rattle.numbers.specs.Small.{f2, half}
use Rattle.geom.specs.Vec.{v2, f0, sum, difference}
use Rattle.geom.specs.declared.vec2.Vec2.{Vec2}
use Rattle.raster.specs.declared.grid.Grid.{Grid}
use Rattle.raster.specs.declared.grid.CellNo.{CellNo}
use Rattle.raster.specs.declared.grid.Refusal.{Refusal}
use Rattle.raster.specs.declared.grid.Refusal.TheVariants.{Unfit, TooLarge}

-- the sizes of document 01, question 14
pub record Sides (g : Grid) : Type 0 where
  pub wide : 0 < g.nx
  pub high : 0 < g.ny
  pub columns : g.nx ≤ 4096
  pub rows : g.ny ≤ 4096
  pub cells : g.ny * g.nx ≤ 1048576

-- a map of n bytes holds the grid's cells
pub record Over (g : Grid) (n : ℕ) : Type 0 where
  pub sides : Sides g
  pub long : g.ny * g.nx ≤ n

-- the whole cells from lo to hi with the margin on both sides; a side has one more
unfoldable pub reach_of : Float → Float → Float → Float → ℕ
reach_of lo hi cell margin = to_unsigned 64 (ceil_of (div binary64 (add binary64 (sub binary64 hi lo) (mul binary64 f2 margin)) cell))

unfoldable pub grid_of : Vec2 → Vec2 → Float → Float → Grid
grid_of lo hi cell margin = record {
  origin = difference lo (v2 margin margin);
  cell = cell;
  nx = reach_of lo.x hi.x cell margin + 1;
  ny = reach_of lo.y hi.y cell margin + 1;
}

-- a grid that is not too large: document 01, question 14
unfoldable pub sized_of : Grid → Result Grid Refusal
sized_of g = cond (leb g.nx 4096 && (leb g.ny 4096 && leb (g.ny * g.nx) 1048576)) (Ok g) (Err TooLarge)

-- numbers, hi not below lo
unfoldable pub spans_of : Float → Float → Bool
spans_of lo hi = (is_finite lo && is_finite hi) && not (lt hi lo)

-- the Rust's tests: a cell above 0, corners that are numbers, and no corner beyond the other
unfoldable pub fit_of : Vec2 → Vec2 → Float → Bool
fit_of lo hi cell = (is_finite cell && lt f0 cell) && (spans_of lo.x hi.x && spans_of lo.y hi.y)

unfoldable pub new_grid : Vec2 → Vec2 → Float → Float → Result Grid Refusal
new_grid lo hi cell margin = cond (fit_of lo hi cell) (sized_of (grid_of lo hi cell margin)) (Err Unfit)

-- document 01's number of a refusal
abbrev pub refusal_of : Refusal → ℕ
refusal_of Unfit = 12
refusal_of TooLarge = 14

unfoldable pub numbered : Grid → ℕ → ℕ → CellNo
numbered g i j = record { 0 = j * g.nx + i }

-- how far cell i's centre is from the corner
abbrev pub offset : Grid → ℕ → Float
offset g i = mul binary64 (add binary64 (float i) half) g.cell

unfoldable pub center_of : Grid → ℕ → ℕ → Vec2
center_of g i j = sum g.origin (v2 (offset g i) (offset g j))

-- a column and a row that are on the grid
unfoldable pub on_grid : Grid → ℕ → ℕ → Option (ℕ × ℕ)
on_grid g i j = cond (ltb i g.nx && ltb j g.ny) (Some (i, j)) None

-- a point's place in columns, and in rows
abbrev pub column_at : Grid → Vec2 → Float
column_at g p = div binary64 (sub binary64 p.x g.origin.x) g.cell

abbrev pub row_at : Grid → Vec2 → Float
row_at g p = div binary64 (sub binary64 p.y g.origin.y) g.cell

-- below the corner, or no number
abbrev pub astray : Float → Float → Bool
astray fx fy = lt fx f0 || (lt fy f0 || (not (is_finite fx) || not (is_finite fy)))

-- the cell that holds p, if it is on the grid
unfoldable pub cell_of : Grid → Vec2 → Option (ℕ × ℕ)
cell_of g p = cond (astray (column_at g p) (row_at g p)) None (on_grid g (to_unsigned 64 (column_at g p)) (to_unsigned 64 (row_at g p)))

-- a cell that exists and is set
abbrev pub stock_in : Grid → List ℕ → Option (ℕ × ℕ) → Bool
stock_in g m None = false
stock_in g m (Some (i, j)) = eqb (get_or m (j * g.nx + i) 0) 1

unfoldable pub stock_at : Grid → List ℕ → Vec2 → Bool
stock_at g m p = stock_in g m (cell_of g p)
