-- A table of the columns that a disk of one radius has in each row, wherever in its cell the centre lies: at most those from a first to a last, and at least
-- those from another first to another last. Definitions only.
use Rattle.std.specs.Prelude.{ℕ, ◌+◌, ◌*◌, ◌/◌, ◌%◌, ◌≤◌, ◌<◌, ◌≡◌, not, List, length, get_or, T, Float, None, Some}
use Rattle.std.specs.Float.{nan, binary64}
use Rattle.std.specs.Float.Ieee.{is_nan, to_bits}
use Rattle.geom.specs.declared.vec2.Vec2.{Vec2}
use Rattle.raster.specs.Grid.{cell_of}
use Rattle.raster.specs.Disk.{Span, disk_row}
use Rattle.raster.specs.declared.grid.Grid.{Grid}

-- entry k of a slice of floats as a whole number, by its bits
abbrev pub word : List Float → ℕ → ℕ
word t k = to_bits binary64 (get_or t k nan)

-- p lies in cell (i, j), and s cells more on each side of it are on the grid
pub record Placed (g : Grid) (s : ℕ) (p : Vec2) (i j : ℕ) : Type 0 where
  pub at : cell_of g p ≡ Some (i, j)
  pub left : s ≤ i
  pub right : i + s < g.nx
  pub below : s ≤ j
  pub above : j + s < g.ny

-- a span lies in the columns a to b, both counted from column i - s on
abbrev pub LiesIn : ℕ → ℕ → ℕ → ℕ → Span → Type 0
LiesIn s i a b None = Unit
LiesIn s i a b (Some (k, l)) = (i + a ≤ k + s) × (l + s ≤ i + b)

-- a span has all of the columns a to b, if a ≤ b
abbrev pub Covers : ℕ → ℕ → ℕ → ℕ → Span → Type 0
Covers s i a b None = b < a
Covers s i a b (Some (k, l)) = a ≤ b → (k + s ≤ i + a) × (i + b ≤ l + s)

-- In the row y = j + q - s the disk of radius r at a point of cell (i, j) has no other columns than those of the word w, and all of those of the word v. A word
-- is a first column times 65536 and a last one.
pub record Told (g : Grid) (r : Float) (s q w v : ℕ) : Type 0 where
  pub outer : (c : Vec2) (i j y : ℕ) → Placed g s c i j → y + s ≡ j + q → LiesIn s i (w / 65536) (w % 65536) (disk_row g c r y)
  pub inner : (c : Vec2) (i j y : ℕ) → Placed g s c i j → y + s ≡ j + q → Covers s i (v / 65536) (v % 65536) (disk_row g c r y)

-- the two words of row q
pub record Entry (g : Grid) (r : Float) (s q : ℕ) (t : List Float) : Type 0 where
  pub outer-number : T (not (is_nan (get_or t (2 * q + 1) nan)))
  pub inner-number : T (not (is_nan (get_or t (2 * q + 2) nan)))
  pub told : Told g r s q (word t (2 * q + 1)) (word t (2 * q + 2))

-- the first word is s + 1, and two words of each of the rows 0 to 2 s follow; or it is 0, and nothing is told
pub record Spanning (g : Grid) (r : Float) (t : List Float) : Type 0 where
  pub some : 0 < length t
  pub number : T (not (is_nan (get_or t 0 nan)))
  pub long : (s : ℕ) → word t 0 ≡ s + 1 → 4 * s + 3 ≤ length t
  pub row : (s q : ℕ) → word t 0 ≡ s + 1 → q ≤ 2 * s → Entry g r s q t
