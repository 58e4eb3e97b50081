-- The squares of a round in the workspace, or words that stand for them: of the distance to stock and to cells that were cut, in the cells alone that matter to a window. Definitions only.
use Rattle.std.specs.Prelude.{◌≡◌, Bool, List, ℕ, ◌+◌, ◌-◌, ◌*◌, ◌<◌, get_or}
use Rattle.std.specs.Float.Ieee.{le}
use Rattle.loops.specs.Cells.{number}
use Rattle.loops.specs.Regions.{within, put}
use Rattle.loops.specs.Frame.{Only}
use Rattle.distance.specs.Nearest.{squares_of, transform_of}
use Rattle.distance.specs.Rooted.{rooted_of}
use Rattle.raster.specs.declared.grid.Grid.{Grid}
use Rattle.setup.specs.Layout.{stock_from, near_from, before_from, run, map_in, allowed_in, dirty_in}
use Rattle.setup.specs.Place.{cells_of}
use Rattle.setup.specs.declared.Setup.{Setup}
use Rattle.dilation.specs.Window.{In}
use Rattle.dilation.specs.declared.window.Window.{Window}
use Rattle.field.specs.Bands.{Inside}
use Rattle.field.specs.Field.{reach_of, value_at, wanted_at}
use Rattle.field.specs.declared.band.Band.{Band}

-- the band's rows of the bytes from a on, as a map of their own: its squares are written to the same rows of the words from c on, with what the transform leaves
-- behind them
unfoldable pub squares_put : ℕ → Band → ℕ → ℕ → List ℕ → List ℕ → List ℕ
squares_put nx band a c b u =
    let i = c + band.lo * nx in
    let e = c + (band.hi * nx + 3 * nx) in
    put i e (transform_of 1 (within (a + band.lo * nx) (a + band.hi * nx) b) nx (band.hi - band.lo) (within i e u)) u

-- the squares of a band's rows that are kept for stock say of its cells what those of the whole map say
pub record StockedRows (s : Setup) (band : Band) (b u u' : List ℕ) : Type 0 where
  pub words : Only (stock_from (cells_of s)) (before_from (cells_of s)) u u'
  pub value : (i j : ℕ) → i < s.grid.nx → Inside band j
      → value_at s (map_in (cells_of s) b) (run 0 (cells_of s) u') i j ≡ value_at s (map_in (cells_of s) b) (squares_of 1 (map_in (cells_of s) b) s.grid.nx s.grid.ny) i j

-- those that are kept for cells that were cut are those of the whole map
pub record NearedRows (g : Grid) (band : Band) (b u u' : List ℕ) : Type 0 where
  pub words : Only (near_from (g.ny * g.nx)) (before_from (g.ny * g.nx)) u u'
  pub near : (i j : ℕ) → i < g.nx → Inside band j → get_or (run 1 (g.ny * g.nx) u') (number g.nx i j) 0 ≡ get_or (squares_of 1 (dirty_in (g.ny * g.nx) b) g.nx g.ny) (number g.nx i j) 0

-- the words that are kept for stock say of the window's cells what the squares of the whole map say
pub record Stocked (s : Setup) (w : Window) (b u u' : List ℕ) : Type 0 where
  pub words : Only (stock_from (cells_of s)) (before_from (cells_of s)) u u'
  pub value : (i j : ℕ) → In w i j
      → value_at s (map_in (cells_of s) b) (run 0 (cells_of s) u') i j ≡ value_at s (map_in (cells_of s) b) (squares_of 1 (map_in (cells_of s) b) s.grid.nx s.grid.ny) i j

-- so do those that are kept for cells that were cut
pub record Neared (s : Setup) (w : Window) (b u u' : List ℕ) : Type 0 where
  pub words : Only (near_from (cells_of s)) (before_from (cells_of s)) u u'
  pub near : (i j : ℕ) → In w i j
      → le (rooted_of (get_or (run 1 (cells_of s) u') (number s.grid.nx i j) 0)) (reach_of s)
      ≡ le (rooted_of (get_or (squares_of 1 (dirty_in (cells_of s) b) s.grid.nx s.grid.ny) (number s.grid.nx i j) 0)) (reach_of s)

-- by both, the window's cells are wanted and have the values that the squares of the whole maps give them
pub record Measured (s : Setup) (all : Bool) (w : Window) (b u u' : List ℕ) : Type 0 where
  pub words : Only (stock_from (cells_of s)) (before_from (cells_of s)) u u'
  pub value : (i j : ℕ) → In w i j
      → value_at s (map_in (cells_of s) b) (run 0 (cells_of s) u') i j ≡ value_at s (map_in (cells_of s) b) (squares_of 1 (map_in (cells_of s) b) s.grid.nx s.grid.ny) i j
  pub wanted : (i j : ℕ) → In w i j
      → wanted_at s all (allowed_in (cells_of s) b) (run 1 (cells_of s) u') (number s.grid.nx i j)
      ≡ wanted_at s all (allowed_in (cells_of s) b) (squares_of 1 (dirty_in (cells_of s) b) s.grid.nx s.grid.ny) (number s.grid.nx i j)
