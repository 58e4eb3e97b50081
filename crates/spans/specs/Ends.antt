-- What the parts of the table and of its use promise one another: where the points of a cell lie, what half-widths the rows of a disk have, and which columns
-- they give. The promises of `fill` and `clear_crescent` rest on Spans.antt alone. Definitions only.
use Rattle.std.specs.Prelude.{ℕ, ◌+◌, ◌-◌, ◌≤◌, ◌<◌, ◌≡◌, Bool, true, false, cond, List, get_or, eqb, Float, None, Option, Some}
use Rattle.std.specs.Float.{binary64}
use Rattle.std.specs.Float.Ieee.{of_bits, add, sub, mul, div, lt, le, is_nan}
use Rattle.numbers.specs.Order.{max_of, min_of, is_finite}
use Rattle.numbers.specs.Whole.{floor_of}
use Rattle.numbers.specs.Root.{root_of}
use Rattle.numbers.specs.Cast.{float}
use Rattle.geom.specs.Vec.{f0}
use Rattle.geom.specs.declared.vec2.Vec2.{Vec2}
use Rattle.raster.specs.Disk.{Span, cell_at, first_from, cols_of, row_y}
use Rattle.raster.specs.Sweep.{crescent_at}
use Rattle.raster.specs.Log.{st, clear_cell}
use Rattle.raster.specs.declared.grid.Grid.{Grid}
use Rattle.spans.specs.Spans.{Placed, LiesIn, Covers, Told, Entry}
use Rattle.spans.specs.declared.columns.Bounds.{Bounds}
use Rattle.spans.specs.declared.heights.Heights.{Heights}
use Rattle.spans.specs.declared.table.Pair.{Pair}
use Rattle.spans.specs.declared.runs.Limits.{Limits}
use Rattle.spans.specs.declared.crescent.Spot.{Spot}

-- ---- the points of a cell

-- a millionth of a cell before cell i of a side, and as much after it
unfoldable pub below_of : Float → Float → ℕ → Float
below_of o cell i = add binary64 o (mul binary64 (sub binary64 (float i) (of_bits binary64 0x3eb0_c6f7_a0b5_ed8d)) cell)

unfoldable pub beyond_of : Float → Float → ℕ → Float
beyond_of o cell i = add binary64 o (mul binary64 (add binary64 (float i) (of_bits binary64 0x3ff0_0001_0c6f_7a0b)) cell)

-- neither lies in the cell
pub record Edged (o cell : Float) (i : ℕ) : Type 0 where
  pub below_finite : is_finite (below_of o cell i) ≡ true
  pub beyond_finite : is_finite (beyond_of o cell i) ≡ true
  pub low : lt (div binary64 (sub binary64 (below_of o cell i) o) cell) (float i) ≡ true
  pub high : le (float (i + 1)) (div binary64 (sub binary64 (beyond_of o cell i) o) cell) ≡ true

-- so it is of each cell of a side but the first
pub record AllEdged (o cell : Float) (n : ℕ) : Type 0 where
  pub at : (i : ℕ) → 0 < i → i < n → Edged o cell i

pub record Tame (g : Grid) : Type 0 where
  pub x_finite : is_finite g.origin.x ≡ true
  pub y_finite : is_finite g.origin.y ≡ true
  pub cell_finite : is_finite g.cell ≡ true
  pub positive : lt f0 g.cell ≡ true
  pub columns : AllEdged g.origin.x g.cell g.nx
  pub rows : AllEdged g.origin.y g.cell g.ny

-- ---- half-widths, squared

unfoldable pub height_of : Float → Float → Float → Float
height_of r2 y cy = sub binary64 r2 (mul binary64 (sub binary64 y cy) (sub binary64 y cy))

-- x is at most, and at least, the square of each number from a to b
pub record Small (a b x : Float) : Type 0 where
  pub number : is_nan x ≡ false
  pub at : (d : Float) → le a d ≡ true → le d b ≡ true → le x (mul binary64 d d) ≡ true

pub record Big (a b x : Float) : Type 0 where
  pub number : is_nan x ≡ false
  pub at : (d : Float) → le a d ≡ true → le d b ≡ true → le (mul binary64 d d) x ≡ true

-- the heights of the row y for centres between lo and hi
pub record High (r2 y lo hi : Float) (h : Heights) : Type 0 where
  pub least-number : is_nan h.least ≡ false
  pub most-number : is_nan h.most ≡ false
  pub at : (cy : Float) → le lo cy ≡ true → le cy hi ≡ true → (le h.least (height_of r2 y cy) ≡ true) × (le (height_of r2 y cy) h.most ≡ true)

-- of both of two
unfoldable pub joined_of : Heights → Heights → Heights
joined_of h k = record { least = min_of h.least k.least; most = max_of h.most k.most }

-- the heights of row q for centres in the rows from s on below e
pub record HighTo (g : Grid) (r2 : Float) (s q e : ℕ) (h : Heights) : Type 0 where
  pub least-number : is_nan h.least ≡ false
  pub most-number : is_nan h.most ≡ false
  pub at : (j : ℕ) (cy : Float) → s ≤ j → j < e → le (below_of g.origin.y g.cell j) cy ≡ true → le cy (beyond_of g.origin.y g.cell j) ≡ true
      → (le h.least (height_of r2 (row_y g (j + q - s)) cy) ≡ true) × (le (height_of r2 (row_y g (j + q - s)) cy) h.most ≡ true)

-- ---- columns

-- the columns from x0 to x1
unfoldable pub span_of : Grid → Float → Float → Span
span_of g x0 x1 = cols_of (first_from (cell_at x0 g.origin.x g.cell)) (floor_of (cell_at x1 g.origin.x g.cell)) g.nx

-- the most and the least of them that half-width h gives about the points of column i
unfoldable pub most_of : Grid → Float → ℕ → Span
most_of g h i = span_of g (sub binary64 (below_of g.origin.x g.cell i) h) (add binary64 (beyond_of g.origin.x g.cell i) h)

unfoldable pub least_of : Grid → Float → ℕ → Span
least_of g h i = span_of g (sub binary64 (beyond_of g.origin.x g.cell i) h) (add binary64 (below_of g.origin.x g.cell i) h)

-- the span of half-width √h2 about x
unfoldable pub about_of : Grid → Float → Float → Span
about_of g x h2 = cond (lt h2 f0) None (span_of g (sub binary64 x (root_of h2)) (add binary64 x (root_of h2)))

-- its columns fit on a grid
abbrev pub Short : Span → Type 0
Short None = Unit
Short (Some (k, l)) = (k < 4096) × (l < 4096)

-- b with one more span in it, or without what one more span has not
pub record Wider (s i : ℕ) (p : Span) (b b' : Bounds) : Type 0 where
  pub first : b'.first ≤ b.first
  pub last : b.last ≤ b'.last
  pub has : LiesIn s i b'.first b'.last p

pub record Narrower (s i : ℕ) (p : Span) (b b' : Bounds) : Type 0 where
  pub first : b.first ≤ b'.first
  pub last : b'.last ≤ b.last
  pub in_it : Covers s i b'.first b'.last p

-- of all columns from s on below e
pub record Most (g : Grid) (s : ℕ) (h : Float) (e : ℕ) (b : Bounds) : Type 0 where
  pub at : (i : ℕ) → s ≤ i → i < e → LiesIn s i b.first b.last (most_of g h i)

pub record Least (g : Grid) (s : ℕ) (h : Float) (e : ℕ) (b : Bounds) : Type 0 where
  pub at : (i : ℕ) → s ≤ i → i < e → Covers s i b.first b.last (least_of g h i)

-- the spans about a point of any column with room, where the height is at most or at least h2
pub record Outer (g : Grid) (s : ℕ) (h2 : Float) (b : Bounds) : Type 0 where
  pub at : Tame g → 0 < s → (i : ℕ) (x k : Float) → s ≤ i → i + s < g.nx → le (below_of g.origin.x g.cell i) x ≡ true → le x (beyond_of g.origin.x g.cell i) ≡ true
      → le k h2 ≡ true → LiesIn s i b.first b.last (about_of g x k)

pub record Inner (g : Grid) (s : ℕ) (h2 : Float) (b : Bounds) : Type 0 where
  pub at : Tame g → 0 < s → (i : ℕ) (x k : Float) → s ≤ i → i + s < g.nx → le (below_of g.origin.x g.cell i) x ≡ true → le x (beyond_of g.origin.x g.cell i) ≡ true
      → le h2 k ≡ true → Covers s i b.first b.last (about_of g x k)

-- ---- the words of the table

pub record RowTold (g : Grid) (r : Float) (s q : ℕ) (p : Pair) : Type 0 where
  pub outer : p.outer < 4294967296
  pub inner : p.inner < 4294967296
  pub told : Told g r s q p.outer p.inner

-- the words of the rows below n
pub record Entries (g : Grid) (r : Float) (s n : ℕ) (t : List Float) : Type 0 where
  pub at : (q : ℕ) → q < n → Entry g r s q t

-- ---- a row of the crescent

abbrev pub is_stock : List ℕ → ℕ → Bool
is_stock m k = eqb (get_or m k 0) 1

-- columns of the row, not counted from another
abbrev pub LiesAt : Limits → Span → Type 0
LiesAt l None = Unit
LiesAt l (Some (k, m)) = (l.first ≤ k) × (m ≤ l.last)

abbrev pub CoversAt : Limits → Span → Type 0
CoversAt l None = l.last < l.first
CoversAt l (Some (k, m)) = l.first ≤ l.last → (k ≤ l.first) × (l.last ≤ m)

-- no column of o that is none of n is stock
pub record Bare (m : List ℕ) (base nx : ℕ) (o n : Limits) : Type 0 where
  pub at : (k : ℕ) → o.first ≤ k → k ≤ o.last → k < nx → (n.first ≤ k → k ≤ n.last → ⊥) → is_stock m (base + k) ≡ false

-- the row y of the crescent changes nothing
pub record Idle (g : Grid) (prev c : Vec2) (r : Float) (y : ℕ) (m : List ℕ) : Type 0 where
  pub at : (log : List ℕ) (n : ℕ) → crescent_at clear_cell g prev c r y (st m log n) ≡ st m log n

-- p with its cell, where that has room
abbrev pub PlacedAt : Grid → ℕ → Vec2 → Option Spot → Type 0
PlacedAt g s p None = Unit
PlacedAt g s p (Some o) = (o.p ≡ p) × Placed g s o.p o.i o.j
