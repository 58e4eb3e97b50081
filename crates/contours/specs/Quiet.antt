-- Runs of squares of one row, and those that have no segment. Definitions only.
use Rattle.std.specs.Prelude.{◌≡◌, ℕ, ◌+◌, ◌<◌, ◌≤◌, List, slice_index_or, Float}
use Rattle.std.specs.Float.{nan}
use Rattle.std.specs.Float.Ieee.{lt, le}
use Rattle.loops.specs.Loop.{loop, any}
use Rattle.raster.specs.declared.grid.Grid.{Grid}
use Rattle.contours.specs.March.{march_square}
use Rattle.contours.specs.declared.quiet.Signs.{Signs}
use Rattle.contours.specs.declared.square.Segment.{Segment}

-- all corners of the squares from column a on before e of row j are cells of the grid
pub record InRow (g : Grid) (a e j : ℕ) : Type 0 where
  pub order : a ≤ e
  pub column : e < g.nx
  pub row : j + 1 < g.ny

-- these squares, one after another
abbrev pub march_run : Grid → List Float → Float → ℕ → ℕ → ℕ → List Segment → List Segment
march_run g f level a e j l = loop (λ i. march_square g f level i j) a e l

-- a NaN is neither above nor below
unfoldable pub signs_of : List Float → Float → ℕ → ℕ → Signs
signs_of f level from to = record {
  above = any (λ k. lt level (slice_index_or f k nan)) from to;
  below = any (λ k. le (slice_index_or f k nan) level) from to;
}

-- none of these squares has a segment
pub record Quiet (g : Grid) (f : List Float) (level : Float) (a e j : ℕ) : Type 0 where
  pub none : (i : ℕ) → a ≤ i → i < e → (l : List Segment) → march_square g f level i j l ≡ l
