-- The cells of a row whose centres lie in a disk, the rows that a disk can reach, and the row of a crescent: the arithmetic of raster.rs, operation by operation. Definitions only.
use Rattle.std.specs.Prelude.{ℕ, ◌+◌, ◌-◌, min, cond, ◌&&◌, ◌||◌, ltb, leb, Float, Option, None, Some}
use Rattle.std.specs.Float.{binary64}
use Rattle.std.specs.Float.Ieee.{to_unsigned, add, sub, mul, div, lt, le}
use Rattle.numbers.specs.Order.{max_of}
use Rattle.numbers.specs.Whole.{floor_of, ceil_of}
use Rattle.numbers.specs.Root.{root_of}
use Rattle.numbers.specs.Small.{half}
use Rattle.geom.specs.Vec.{f0}
use Rattle.geom.specs.declared.vec2.Vec2.{Vec2}
use Rattle.raster.specs.Grid.{offset}
use Rattle.numbers.specs.Cast.{float}
use Rattle.raster.specs.declared.grid.Grid.{Grid}
use Rattle.raster.specs.declared.disk.Rows.{Rows}
use Rattle.raster.specs.declared.disk.Crescent.{Crescent}

-- columns from the first to the second, both in, or none
abbrev pub Span : Type 0
Span = Option (ℕ × ℕ)

-- the y of row j's centres
unfoldable pub row_y : Grid → ℕ → Float
row_y g j = add binary64 g.origin.y (offset g j)

-- a coordinate as a fractional cell number: the centre of cell i is at i
unfoldable pub cell_at : Float → Float → Float → Float
cell_at x o cell = sub binary64 (div binary64 (sub binary64 x o) cell) half

-- the first whole cell number from x on
unfoldable pub first_from : Float → Float
first_from x = max_of (ceil_of x) f0

-- the columns between two whole cell numbers, cut at the last column
unfoldable pub cols_of : Float → Float → ℕ → Span
cols_of i0 i1 nx = cond (lt i1 f0 || (lt i1 i0 || le (float nx) i0)) None (Some (to_unsigned 64 i0, min (to_unsigned 64 i1) (nx - 1)))

-- the columns of row j in the disk at c, of the radius whose square is r2
unfoldable pub chord_of : Grid → Vec2 → Float → ℕ → Span
chord_of g c r2 j =
    let dy = sub binary64 (row_y g j) c.y in
    let h2 = sub binary64 r2 (mul binary64 dy dy) in
    let h = root_of h2 in
    let i0 = first_from (cell_at (sub binary64 c.x h) g.origin.x g.cell) in
    let i1 = floor_of (cell_at (add binary64 c.x h) g.origin.x g.cell) in
    cond (lt h2 f0) None (cols_of i0 i1 g.nx)

-- as in the Rust, which squares the radius in each row
unfoldable pub disk_row : Grid → Vec2 → Float → ℕ → Span
disk_row g c r j = chord_of g c (mul binary64 r r) j

unfoldable pub last_row : Float → ℕ → ℕ
last_row j1 ny = cond (lt j1 f0) 0 (min (to_unsigned 64 j1) (ny - 1))

unfoldable pub rows_of : Grid → Vec2 → Float → Rows
rows_of g c r = record {
  0 = to_unsigned 64 (first_from (cell_at (sub binary64 c.y r) g.origin.y g.cell));
  1 = last_row (floor_of (cell_at (add binary64 c.y r) g.origin.y g.cell)) g.ny;
}

abbrev pub two : Span → Span → Crescent
two a b = record { left = a; right = b }

-- the part of columns i0 to i1 before column p0, and the part after column p1
unfoldable pub left_of : ℕ → ℕ → Span
left_of i0 p0 = cond (ltb i0 p0) (Some (i0, p0 - 1)) None

unfoldable pub right_of : ℕ → ℕ → Span
right_of p1 i1 = cond (ltb p1 i1) (Some (p1 + 1, i1)) None

-- the first span without the second
unfoldable pub less : Span → Span → Crescent
less None q = two None None
less (Some (i0, i1)) None = two (Some (i0, i1)) None
less (Some (i0, i1)) (Some (p0, p1)) = cond (leb p0 i1 && leb i0 p1) (two (left_of i0 p0) (right_of p1 i1)) (two (Some (i0, i1)) None)

unfoldable pub crescent_row : Grid → Vec2 → Vec2 → Float → ℕ → Crescent
crescent_row g prev c r j = less (disk_row g c r j) (disk_row g prev r j)
