-- The field in the workspace: which regions a round of it reads and writes (setup, specs/Layout.antt). Definitions only.
use Rattle.std.specs.Prelude.{◌≡◌, Bool, List, length, replicate, Float, ℕ}
use Rattle.setup.specs.Tables.{Tables}
use Rattle.setup.specs.Place.{cells_of}
use Rattle.setup.specs.declared.Setup.{Setup}
use Rattle.loops.specs.Regions.{within}
use Rattle.loops.specs.Frame.{Only}
use Rattle.distance.specs.Nearest.{squares_of}
use Rattle.raster.specs.Grid.{Sides}
use Rattle.setup.specs.Layout.{stock_from, before_from, rim_from, tables_end, run, dirty_put, field_put, Lent, map_in, allowed_in, dirty_in}
use Rattle.dilation.specs.declared.window.Window.{Window}
use Rattle.field.specs.Bands.{window_rows}
use Rattle.field.specs.Field.{Sensed, sensed, field_of}

-- the slices are lent, and the tool's tables stand where they belong
pub record Ready (s : Setup) (b u : List ℕ) (w f : List Float) : Type 0 where
  pub sides : Sides s.grid
  pub lent : Lent (cells_of s) (length b) (length u) (length f) (length w)
  pub tables : Tables s (within (rim_from (cells_of s)) (tables_end (cells_of s)) w)

-- the cells of a window, over what stands in the regions
unfoldable pub rows_in : Setup → Bool → Window → List ℕ → List ℕ → List Float → Sensed
rows_in s all x b u f =
    let n = cells_of s in
    window_rows s all (map_in n b) (allowed_in n b) (run 0 n u) (run 1 n u) x (sensed (run 0 n f) 0)

-- they are worked out into the f32's first run
pub record Rowed (s : Setup) (all : Bool) (x : Window) (b u : List ℕ) (f : List Float) (r : ℕ) (f' : List Float) : Type 0 where
  pub sampled : r ≡ (rows_in s all x b u f).sampled
  pub singles : f' ≡ field_put (cells_of s) (rows_in s all x b u f).field f

-- the field of a round, by the squares of the distance to the map's stock
unfoldable pub round_of : Setup → Bool → List ℕ → List Float → Sensed
round_of s all b f =
    let n = cells_of s in
    field_of s all (map_in n b) (allowed_in n b) (squares_of 1 (map_in n b) s.grid.nx s.grid.ny) (dirty_in n b) (run 0 n f)

-- it is worked out: the bytes that mark dirty cells are cleared, and of the words those that hold squares are written
pub record Done (s : Setup) (all : Bool) (b u : List ℕ) (f : List Float) (r : ℕ) (b' u' : List ℕ) (f' : List Float) : Type 0 where
  pub sampled : r ≡ (round_of s all b f).sampled
  pub singles : f' ≡ field_put (cells_of s) (round_of s all b f).field f
  pub bytes : b' ≡ dirty_put (cells_of s) (replicate (cells_of s) 0) b
  pub words : Only (stock_from (cells_of s)) (before_from (cells_of s)) u u'
