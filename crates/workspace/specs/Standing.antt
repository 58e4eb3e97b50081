-- The workspace between the steps of a plan: what stands in the lent slices from the set-up to the end, and what a step leaves of it. Definitions only.
use Rattle.std.specs.Prelude.{ℕ, ◌+◌, ◌*◌, ◌≤◌, ◌≡◌, List, length, Float}
use Rattle.loops.specs.Frame.{Only}
use Rattle.geom.specs.Region.{Held}
use Rattle.raster.specs.Grid.{Sides}
use Rattle.setup.specs.Layout.{run, put_run, allowed_in, traced_from, rim_from}
use Rattle.setup.specs.Place.{cells_of}
use Rattle.setup.specs.declared.Setup.{Setup}
use Rattle.setup.specs.Tables.{Tables}
use Rattle.links.specs.Path.{tables_in}

-- ---- regions of the bytes that only planning reads

-- the stock that the tool can reach
abbrev pub reach_in : ℕ → List ℕ → List ℕ
reach_in n b = run 2 n b

-- the cells that are given up
abbrev pub abandoned_in : ℕ → List ℕ → List ℕ
abandoned_in n b = run 3 n b

abbrev pub abandoned_put : ℕ → List ℕ → List ℕ → List ℕ
abandoned_put n a b = put_run 3 n a b

-- ---- what every step finds

-- the slices are lent for the raster's cells, the region's loops are held, and the tool's tables stand where they belong
pub record Standing (s : Setup) (vs : List Float) (lens b u : List ℕ) (w : List Float) : Type 0 where
  pub sides : Sides s.grid
  pub bytes : 8 * cells_of s ≤ length b
  pub words : 32 * cells_of s + 8192 ≤ length u
  pub doubles : 32 * cells_of s + 8192 ≤ length w
  pub held : Held vs lens s.region
  pub tables : Tables s (tables_in s w)

-- ---- what a step leaves alone

-- of the bytes: their length, where the tool may go, and what it can reach
pub record CellsKept (n : ℕ) (b b' : List ℕ) : Type 0 where
  pub long : length b' ≡ length b
  pub allowed : allowed_in n b' ≡ allowed_in n b
  pub reach : reach_in n b' ≡ reach_in n b

-- of the f64: the wall distances before the traced points, and the tool's tables behind the path
abbrev pub WallsKept : ℕ → List Float → List Float → Type 0
WallsKept n w w' = Only (traced_from n) (rim_from n) w w'
