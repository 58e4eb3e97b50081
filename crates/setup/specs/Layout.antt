-- The workspace: which region of the four lent slices holds what, for a raster of n cells. Definitions only.
use Rattle.std.specs.Prelude.{List, [], ◌∷◌, ℕ, ◌+◌, ◌*◌, ◌≤◌, Float}
use Rattle.loops.specs.Regions.{within, put}

-- the most cells of a raster (document 01, question 14)
abbrev pub most : ℕ
most = 1048576

-- ---- bytes, 8 n: a byte a cell; one for each edge between cells

abbrev pub map_from : ℕ → ℕ
map_from n = 0 * n

abbrev pub allowed_from : ℕ → ℕ
allowed_from n = 1 * n

abbrev pub reach_from : ℕ → ℕ
reach_from n = 2 * n

abbrev pub abandoned_from : ℕ → ℕ
abandoned_from n = 3 * n

abbrev pub dirty_from : ℕ → ℕ
dirty_from n = 4 * n

-- the cells inside the region, while planning is set up
abbrev pub inside_from : ℕ → ℕ
inside_from n = 5 * n

-- the marks of edges, two for each cell
abbrev pub marks_from : ℕ → ℕ
marks_from n = 6 * n

-- ---- u32, 32 n + 8,192

-- squares of the distance to stock
abbrev pub stock_from : ℕ → ℕ
stock_from n = 0 * n

-- squares of the distance to a dirty cell. The transform's scratch follows its squares: that of the distance to stock lies here
abbrev pub near_from : ℕ → ℕ
near_from n = 1 * n

-- the node before a node, on the way that is searched
abbrev pub before_from : ℕ → ℕ
before_from n = 5 * n

-- the heap's nodes: eight for each node that is expanded, and the start
abbrev pub heap_from : ℕ → ℕ
heap_from n = 6 * n

-- segments, two edges each: at most two for each square of four cells
abbrev pub segments_from : ℕ → ℕ
segments_from n = 15 * n

-- the edge after an edge
abbrev pub next_from : ℕ → ℕ
next_from n = 19 * n

-- pieces, three numbers each
abbrev pub rows_from : ℕ → ℕ
rows_from n = 21 * n

-- the cells that the pass on trial cleared
abbrev pub log_from : ℕ → ℕ
log_from n = 24 * n

-- ---- f32, 2 n

abbrev pub field_from : ℕ → ℕ
field_from n = 0 * n

abbrev pub ring_from : ℕ → ℕ
ring_from n = 1 * n

-- ---- f64, 32 n + 8,192

abbrev pub wall_from : ℕ → ℕ
wall_from n = 0 * n

-- the points of the pieces that were traced, two numbers each: at most two for each cell
abbrev pub traced_from : ℕ → ℕ
traced_from n = 1 * n

-- the points of the guide of a pass, at most one more than those of its piece
abbrev pub guide_from : ℕ → ℕ
guide_from n = 5 * n

abbrev pub cost_from : ℕ → ℕ
cost_from n = 10 * n

abbrev pub estimates_from : ℕ → ℕ
estimates_from n = 11 * n

-- the points of a way: a node each, and its end
abbrev pub path_from : ℕ → ℕ
path_from n = 20 * n

-- behind them
abbrev pub path_end : ℕ → ℕ
path_end n = 23 * n

-- directions of the rim's samples, at most 2,048
abbrev pub rim_from : ℕ → ℕ
rim_from n = 24 * n

-- where the columns of a raster are, one number for each, while regions are filled; then the cells under the rim
abbrev pub columns_from : ℕ → ℕ
columns_from n = 24 * n + 4096

-- behind them
abbrev pub tables_end : ℕ → ℕ
tables_end n = rim_from n + (8 * n + 8192)

-- ---- the table

pub record Region : Type 0 where
  pub start : ℕ
  pub long : ℕ

abbrev pub at : ℕ → ℕ → Region
at start long = record { start = start; long = long }

unfoldable pub bytes : ℕ → List Region
bytes n = at (map_from n) n ∷ at (allowed_from n) n ∷ at (reach_from n) n ∷ at (abandoned_from n) n ∷ at (dirty_from n) n ∷ at (inside_from n) n ∷ at (marks_from n) (2 * n) ∷ []

unfoldable pub words : ℕ → List Region
words n =
    at (stock_from n) n
    ∷ at (near_from n) (4 * n)
    ∷ at (before_from n) n
    ∷ at (heap_from n) (9 * n)
    ∷ at (segments_from n) (4 * n)
    ∷ at (next_from n) (2 * n)
    ∷ at (rows_from n) (3 * n)
    ∷ at (log_from n) n
    ∷ []

unfoldable pub singles : ℕ → List Region
singles n = at (field_from n) n ∷ at (ring_from n) n ∷ []

unfoldable pub doubles : ℕ → List Region
doubles n =
    at (wall_from n) n
    ∷ at (traced_from n) (4 * n)
    ∷ at (guide_from n) (5 * n)
    ∷ at (cost_from n) n
    ∷ at (estimates_from n) (9 * n)
    ∷ at (path_from n) (3 * n)
    ∷ at (rim_from n) 4096
    ∷ at (columns_from n) (8 * n + 4096)
    ∷ []

-- each region begins at `from` or later and behind the one before it, and the last ends within `size`
abbrev pub Apart : ℕ → List Region → ℕ → Type 0
Apart from [] size = from ≤ size
Apart from (r ∷ rs) size = (from ≤ r.start) × Apart (r.start + r.long) rs size

-- ---- what planning keeps there

-- the kth run of n places
abbrev pub run : {A : Type 0} → ℕ → ℕ → List A → List A
run k n w = within (k * n) (k * n + n) w

abbrev pub put_run : {A : Type 0} → ℕ → ℕ → List A → List A → List A
put_run k n r w = put (k * n) (k * n + n) r w

-- the regions that hold something for each cell, by name
abbrev pub map_in : ℕ → List ℕ → List ℕ
map_in n b = run 0 n b

abbrev pub allowed_in : ℕ → List ℕ → List ℕ
allowed_in n b = run 1 n b

abbrev pub dirty_in : ℕ → List ℕ → List ℕ
dirty_in n b = run 4 n b

abbrev pub log_in : ℕ → List ℕ → List ℕ
log_in n u = run 24 n u

-- the same regions, put
abbrev pub map_put : ℕ → List ℕ → List ℕ → List ℕ
map_put n m b = put_run 0 n m b

abbrev pub dirty_put : ℕ → List ℕ → List ℕ → List ℕ
dirty_put n d b = put_run 4 n d b

abbrev pub field_put : ℕ → List Float → List Float → List Float
field_put n x f = put_run 0 n x f

-- the lent slices are long enough for n cells
pub record Lent (n b u f w : ℕ) : Type 0 where
  pub bytes : 8 * n ≤ b
  pub words : 32 * n + 8192 ≤ u
  pub singles : 2 * n ≤ f
  pub doubles : 32 * n + 8192 ≤ w
