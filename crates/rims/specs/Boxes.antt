-- Where the samples of a rim lie, counted from the cell of its centre, wherever in its cell the centre lies: in one of two columns and one of two rows; and the
-- first number of each column and row, which tells the two apart. Definitions only.
use Rattle.std.specs.Prelude.{ℕ, ◌+◌, ◌-◌, ◌*◌, ◌/◌, ◌%◌, ◌≤◌, ◌<◌, min, ◌≡◌, true, not, List, length, get_or, T, Float, Some}
use Rattle.std.specs.Float.{nan, binary64}
use Rattle.std.specs.Float.Ieee.{is_nan, fits, add, sub, div, lt, le}
use Rattle.numbers.specs.Cast.{float}
use Rattle.geom.specs.declared.vec2.Vec2.{Vec2}
use Rattle.raster.specs.Grid.{column_at, row_at, cell_of}
use Rattle.raster.specs.Contact.{direction_at, rim_at, Rim}
use Rattle.raster.specs.declared.grid.Grid.{Grid}
use Rattle.spans.specs.Spans.{word}
use Rattle.spans.specs.Ends.{below_of, beyond_of}
use Rattle.rims.specs.Offsets.{Roomy}

-- w becomes v, and what stands before a and from e on is as it was
pub record Apart (a e : ℕ) (w v : List Float) : Type 0 where
  pub long : length v ≡ length w
  pub before : (k : ℕ) → k < a → get_or v k nan ≡ get_or w k nan
  pub after : (k : ℕ) → e ≤ k → get_or v k nan ≡ get_or w k nan

-- ---- the first number of a cell

-- the numbers from x on are those that, divided by the cell, are m or more
pub record First (cell : Float) (m : ℕ) (x : Float) : Type 0 where
  pub at : (q : Float) → T (fits binary64 q) → le x q ≡ le (float m) (div binary64 q cell)

-- the first numbers of the cells 1 on below n stand in w, that of cell m at place 8193 + m
pub record FirstsTo (cell : Float) (n : ℕ) (w : List Float) : Type 0 where
  pub at : (m : ℕ) → 0 < m → m < n → First cell m (get_or w (8193 + m) nan)

-- those of all columns and rows of the grid do, unless the word before them is 0
pub record Firsts (g : Grid) (w : List Float) : Type 0 where
  pub number : T (not (is_nan (get_or w 8192 nan)))
  pub columns : 0 < word w 8192 → FirstsTo g.cell g.nx w
  pub rows : 0 < word w 8192 → FirstsTo g.cell g.ny w

-- in a slice that is long enough to hold the tables
pub record Started (g : Grid) (w : List Float) : Type 0 where
  pub told : 17152 ≤ length w → Firsts g w

-- ---- boxes

-- the place f, in cells, is in cell k or the next one, both of n
pub record Two (n k : ℕ) (f : Float) : Type 0 where
  pub low : le (float k) f ≡ true
  pub high : lt f (float (k + 2)) ≡ true
  pub on : k + 1 < n

-- Around every point of a cell (i, j) with room the rim's point in direction u lies in one of the columns i - s + a and the next, and in one of the rows j - s + c
-- and the next.
pub record Near (g : Grid) (r : Float) (s : ℕ) (u : Vec2) (a c : ℕ) : Type 0 where
  pub column : (p : Vec2) (i j : ℕ) → cell_of g p ≡ Some (i, j) → Roomy g s i j → Two g.nx (i - s + a) (column_at g (rim_at p r u))
  pub row : (p : Vec2) (i j : ℕ) → cell_of g p ≡ Some (i, j) → Roomy g s i j → Two g.ny (j - s + c) (row_at g (rim_at p r u))

-- 0 says nothing, and 1 more than a + 4096 c that it is so
pub record Entry (g : Grid) (r : Float) (s : ℕ) (u : Vec2) (x : ℕ) : Type 0 where
  pub near : (e : ℕ) → x ≡ e + 1 → Near g r s u (e % 4096) (e / 4096)

-- the first k entries of the table at `at`
pub record EntriesTo (g : Grid) (r : Float) (n at s k : ℕ) (w : List Float) : Type 0 where
  pub number : (i : ℕ) → i < k → T (not (is_nan (get_or w (at + 1 + i) nan)))
  pub entry : (i : ℕ) → i < k → Entry g r s (direction_at n i) (word w (at + 1 + i))

-- the words from a on below e are numbers
pub record Numbers (a e : ℕ) (w : List Float) : Type 0 where
  pub at : (k : ℕ) → a ≤ k → k < e → T (not (is_nan (get_or w k nan)))

-- entry x tells of a box, whose first column is one from a to b and whose first row is one from c to d
pub record Inside (a b c d x : ℕ) : Type 0 where
  pub some : 0 < x
  pub left : a ≤ (x - 1) % 4096
  pub right : (x - 1) % 4096 ≤ b
  pub below : c ≤ (x - 1) / 4096
  pub above : (x - 1) / 4096 ≤ d

-- so it is of the first k entries
pub record InsideTo (w : List Float) (a b c d k : ℕ) : Type 0 where
  pub at : (i : ℕ) → i < k → Inside a b c d (word w i)

-- x of the entries from place a on below e: 0 says nothing, and 1 more than i + 4096 j that their boxes lie in the 9 columns from i on and the 9 rows from j on
pub record Block (w : List Float) (a e x : ℕ) : Type 0 where
  pub inside : (d : ℕ) → x ≡ d + 1 → (k : ℕ) → a ≤ k → k < e → Inside (d % 4096) (d % 4096 + 7) (d / 4096) (d / 4096 + 7) (word w k)

-- block b's word of the table at `at`, behind the room for 2048 entries
abbrev pub block_at : List Float → ℕ → ℕ → ℕ
block_at w at b = word w (at + 2049 + b)

-- the first k blocks of 8 samples
pub record BlocksTo (n at k : ℕ) (w : List Float) : Type 0 where
  pub number : (b : ℕ) → b < k → T (not (is_nan (get_or w (at + 2049 + b) nan)))
  pub block : (b : ℕ) → b < k → Block w (at + 1 + 8 * b) (at + 1 + min (8 * b + 8) n) (block_at w at b)

-- The table of radius r at `at`: its first word is s + 1, and an entry of each of n samples follows, and blocks of them; or it is 0, and nothing is told.
pub record Table (g : Grid) (r : Float) (n at : ℕ) (w : List Float) : Type 0 where
  pub number : T (not (is_nan (get_or w at nan)))
  pub firsts : 0 < word w at → FirstsTo g.cell g.nx w × FirstsTo g.cell g.ny w
  pub entries : (s : ℕ) → word w at ≡ s + 1 → EntriesTo g r n at s n w
  pub blocks : 0 < word w at → BlocksTo n at 255 w

-- in a slice that is long enough to hold the tables
pub record Boxed (g : Grid) (r : Float) (n at : ℕ) (w : List Float) : Type 0 where
  pub told : 17152 ≤ length w → Table g r n at w

-- What the hits around p are counted by: a table, and a cell (i, j), which lies as far to the left of p's and below it as p's has room.
pub record Around (g : Grid) (p : Vec2) (r : Float) (w : List Float) (n at i j : ℕ) : Type 0 where
  pub few : n ≤ 2048
  pub place : at ≤ 14848
  pub long : 17152 ≤ length w
  pub rim : Rim n w
  pub columns : FirstsTo g.cell g.nx w
  pub rows : FirstsTo g.cell g.ny w
  pub room : ℕ
  pub entries : EntriesTo g r n at room n w
  pub blocks : BlocksTo n at 255 w
  pub cell : cell_of g p ≡ Some (i + room, j + room)
  pub roomy : Roomy g room (i + room) (j + room)

-- counted from cell (i, j), the first column and the first row that block b tells of are on the grid
pub record BlockOn (g : Grid) (w : List Float) (at i j b : ℕ) : Type 0 where
  pub number : b < 255 → T (not (is_nan (get_or w (at + 2049 + b) nan)))
  pub column : b < 255 → 0 < block_at w at b → i + (block_at w at b - 1) % 4096 < g.nx
  pub row : b < 255 → 0 < block_at w at b → j + (block_at w at b - 1) / 4096 < g.ny

-- ---- what is tested, and told of every point by the edges of its cell

-- the edges of cell i, moved by v, lie in cell k or the next one, or between them
pub record EdgesIn (o cell : Float) (n : ℕ) (v : Float) (i k : ℕ) : Type 0 where
  pub low : le (float k) (div binary64 (sub binary64 (add binary64 (below_of o cell i) v) o) cell) ≡ true
  pub high : lt (div binary64 (sub binary64 (add binary64 (beyond_of o cell i) v) o) cell) (float (k + 2)) ≡ true
  pub on : k + 1 < n

-- so it is of each cell from s on below e, where k is a cells after cell i - s
pub record EdgesTo (o cell : Float) (n s : ℕ) (v : Float) (a e : ℕ) : Type 0 where
  pub at : (i : ℕ) → s ≤ i → i < e → EdgesIn o cell n v i (i - s + a)
