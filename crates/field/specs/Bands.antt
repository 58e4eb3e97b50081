-- Bands of rows and of columns: a round of the field goes by the window near to the cells that were cut, and by the stock near to it. Definitions only.
use Rattle.std.specs.Prelude.{◌≡◌, Bool, true, false, Option, Some, List, ℕ, ◌+◌, ◌-◌, ◌*◌, ◌≤◌, ◌<◌, min, max, get_or, eqb}
use Rattle.loops.specs.Loop.{loop}
use Rattle.loops.specs.Cells.{number}
use Rattle.distance.specs.Least.{far, at, apart}
use Rattle.distance.specs.Nearest.{squares_of}
use Rattle.setup.specs.declared.Setup.{Setup}
use Rattle.dilation.specs.Window.{In}
use Rattle.dilation.specs.declared.window.Window.{Window}
use Rattle.field.specs.Field.{wanted_at, Sensed, field_cell}
use Rattle.field.specs.declared.band.Band.{Band}

-- the rows, or the columns, from lo on, before hi
abbrev pub between : ℕ → ℕ → Band
between lo hi = record { lo = lo; hi = hi }

-- row j is one of them
pub record Inside (band : Band) (j : ℕ) : Type 0 where
  pub low : band.lo ≤ j
  pub high : j < band.hi

-- they are rows of a map of ny rows
pub record RowsOf (ny : ℕ) (band : Band) : Type 0 where
  pub order : band.lo ≤ band.hi
  pub high : band.hi ≤ ny

-- with m rows more on either side, cut to a map of ny rows
unfoldable pub widened : ℕ → ℕ → Band → Band
widened ny m band = between (band.lo - m) (min (band.hi + m) ny)

-- the square of more than m rows, of a map of ny rows, is at or above the first square that fails, if there is one
pub record Margin (below : Option ℕ) (ny m : ℕ) : Type 0 where
  pub few : m ≤ ny
  pub fits : (e : ℕ) → below ≡ Some e → e ≤ far
  pub beyond : (k : ℕ) → m < k → k < ny → (e : ℕ) × (below ≡ Some e) × (e ≤ k * k)

-- ---- the rows that have a mark

-- of the bytes from a on, before e, none is a mark
pub record Unmarked (m : List ℕ) (a e : ℕ) : Type 0 where
  pub none : (k : ℕ) → a ≤ k → k < e → eqb (get_or m k 0) 1 ≡ false

-- each mark of an nx by ny map is in one of the band's rows
pub record MarkedRows (m : List ℕ) (nx ny : ℕ) (band : Band) : Type 0 where
  pub rows : RowsOf ny band
  pub marked : (i j : ℕ) → i < nx → j < ny → eqb (get_or m (number nx i j) 0) 1 ≡ true → Inside band j

-- each mark in one of these rows is in one of the band's columns
pub record MarkedColumns (m : List ℕ) (nx : ℕ) (rows band : Band) : Type 0 where
  pub columns : RowsOf nx band
  pub marked : (i j : ℕ) → i < nx → Inside rows j → eqb (get_or m (number nx i j) 0) 1 ≡ true → Inside band i

-- ---- the window that a round goes through

abbrev pub rows_of : Window → Band
rows_of w = between w.lo w.hi

abbrev pub columns_of : Window → Band
columns_of w = between w.left w.right

abbrev pub window_of : Band → Band → Window
window_of rows columns = record { lo = rows.lo; hi = rows.hi; left = columns.lo; right = columns.hi }

-- each mark is in the window, and none is nearer to a cell outside it than the bound e
pub record Around (m : List ℕ) (nx ny e : ℕ) (w : Window) : Type 0 where
  pub rows : RowsOf ny (rows_of w)
  pub columns : RowsOf nx (columns_of w)
  pub marked : (i j : ℕ) → i < nx → j < ny → eqb (get_or m (number nx i j) 0) 1 ≡ true → In w i j
  pub fits : e ≤ far
  pub beyond : (i j x k : ℕ) → i < nx → j < ny → (In w i j → ⊥) → x < nx → k < ny → eqb (get_or m (number nx x k) 0) 1 ≡ true → e ≤ apart (at i j) (at x k)

-- no cell outside the window is wanted; unless all cells are worked out anew, each cell that was cut is in it
pub record WantedIn (s : Setup) (all : Bool) (dirty : List ℕ) (w : Window) : Type 0 where
  pub rows : RowsOf s.grid.ny (rows_of w)
  pub columns : RowsOf s.grid.nx (columns_of w)
  pub cut : all ≡ false → (i j : ℕ) → i < s.grid.nx → j < s.grid.ny → eqb (get_or dirty (number s.grid.nx i j) 0) 1 ≡ true → In w i j
  pub outside : (allowed : List ℕ) (i j : ℕ) → i < s.grid.nx → j < s.grid.ny → (In w i j → ⊥)
      → wanted_at s all allowed (squares_of 1 dirty s.grid.nx s.grid.ny) (number s.grid.nx i j) ≡ false

-- the cells of a window are worked out; the rim of cells is left out
module _ (s : Setup) (all : Bool) (map allowed stock near : List ℕ) (w : Window) where
  unfoldable pub window_row : ℕ → Sensed → Sensed
  window_row j t = loop (field_cell s all map allowed stock near j) (max 1 w.left) (min w.right (s.grid.nx - 1)) t

  unfoldable pub window_rows : Sensed → Sensed
  window_rows t = loop window_row (max 1 w.lo) (min w.hi (s.grid.ny - 1)) t
