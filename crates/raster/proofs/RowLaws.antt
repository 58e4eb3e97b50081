-- The columns of a row lie in the row, and a row's cells in the map. Assumes nothing.
use Rattle.std.specs.Prelude.{None, Some}
use mathlib.Core.Path.{◌≡◌, refl, sym, subst}
use mathlib.Core.Bool.{Bool, true, false, cond, ◌&&◌, ◌||◌}
use Prim.Native.Nat.{ℕ, ◌+◌, ◌-◌, ◌*◌, ◌^◌, ◌≤◌, ◌<◌, min}
use native.Mathlib.Nat.{add-mul}
use native.Mathlib.Omega.{arith}
use borrow.Author.Tests.{ltb-true, leb-true}
use lib.Dec.{ltb, leb, lit≤}
use lib.Ieee.{Float, binary64, of_bits, prec, sub, add, mul, lt, le, is_nan, to_unsigned}
use Rattle.numbers.specs.Order.{max_of}
use Rattle.numbers.specs.Whole.{floor_of, ceil_of}
use Rattle.numbers.specs.Root.{root_of}
use Rattle.geom.specs.Vec.{f0}
use Rattle.geom.specs.declared.vec2.Vec2.{Vec2}
use Rattle.loops.proofs.Cases.{by_test, both}
use Rattle.loops.proofs.CellLaws.{row_below}
use Rattle.floats.proofs.IndexLaws.{index_not_le}
use Rattle.raster.specs.Grid.{Sides, Over}
use Rattle.numbers.specs.Cast.{float}
use Rattle.raster.specs.Disk.{Span, row_y, cell_at, first_from, cols_of, chord_of, disk_row, last_row, rows_of, left_of, right_of, less, two, crescent_row}
use Rattle.raster.specs.Sweep.{Inside}
use Rattle.raster.specs.declared.grid.Grid.{Grid}
use Rattle.raster.specs.declared.disk.Crescent.{Crescent}
use Rattle.raster.specs.declared.disk.Rows.{Rows}

abbrev pub InRow : ℕ → Span → Type 0
InRow nx None = Unit
InRow nx (Some (a, b)) = (a < nx) × (b < nx)

-- the first cell number is never a NaN
max_number : (x : Float) → is_nan (max_of x f0) ≡ false
unfolding max_of of_bits is_nan
max_number x = by_test (λ (y : Float). is_nan y ≡ false) (lt x f0) f0 (cond (is_nan x) f0 x) (λ t. refl) (λ t. by_test (λ (y : Float). is_nan y ≡ false) (is_nan x) f0 x (λ u. refl) (λ u. u))

pub first-number : (x : Float) → is_nan (first_from x) ≡ false
unfolding first_from
first-number x = max_number (ceil_of x)

pub or_last : (a b c : Bool) → a || (b || c) ≡ false → c ≡ false
or_last true b c e = absurd (mathlib.Core.Bool.true≢false e)
or_last false true c e = absurd (mathlib.Core.Bool.true≢false e)
or_last false false c e = e

-- a first cell number that is not past the row is a column of it
pub first_below : (nx : ℕ) (i0 : Float) → 0 < nx → nx ≤ 4096 → is_nan i0 ≡ false → le (float nx) i0 ≡ false → to_unsigned 64 i0 < nx
first_below nx i0 w h q t = index_not_le binary64 64 nx i0 w (let l : 4096 ≤ 2 ^ prec binary64 = lit≤ tt in omega arith) q t

pub cols_in : (i0 i1 : Float) (nx : ℕ) → 0 < nx → nx ≤ 4096 → is_nan i0 ≡ false → InRow nx (cols_of i0 i1 nx)
unfolding cols_of
cols_in i0 i1 nx w h q =
    by_test (InRow nx) (lt i1 f0 || (lt i1 i0 || le (float nx) i0)) None (Some (to_unsigned 64 i0, min (to_unsigned 64 i1) (nx - 1))) (λ t. tt)
    (λ t. (first_below nx i0 w h q (or_last (lt i1 f0) (lt i1 i0) (le (float nx) i0) t), omega arith))

pub chord_in : (g : Grid) (c : Vec2) (r2 : Float) (j : ℕ) → Sides g → InRow g.nx (chord_of g c r2 j)
unfolding chord_of
chord_in g c r2 j s =
    let dy = sub binary64 (row_y g j) c.y in
    let h2 = sub binary64 r2 (mul binary64 dy dy) in
    let h = root_of h2 in
    let i0 = first_from (cell_at (sub binary64 c.x h) g.origin.x g.cell) in
    let i1 = floor_of (cell_at (add binary64 c.x h) g.origin.x g.cell) in
    by_test (InRow g.nx) (lt h2 f0) None (cols_of i0 i1 g.nx) (λ p. tt)
    (λ p. cols_in i0 i1 g.nx s.wide s.columns (first-number (cell_at (sub binary64 c.x h) g.origin.x g.cell)))

pub chord_within : (g : Grid) (c : Vec2) (r2 : Float) (j : ℕ) (s : Span) → s ≡ chord_of g c r2 j → Sides g → InRow g.nx s
chord_within g c r2 j s e h = subst (InRow g.nx) (sym e) (chord_in g c r2 j h)

pub disk_in : (g : Grid) (c : Vec2) (r : Float) (j : ℕ) → Sides g → InRow g.nx (disk_row g c r j)
unfolding disk_row
disk_in g c r j s = chord_in g c (mul binary64 r r) j s

left_in_lem : (i0 i1 p0 nx : ℕ) → i1 < nx → p0 ≤ i1 → InRow nx (left_of i0 p0)
unfolding left_of
left_in_lem i0 i1 p0 nx h k = by_test (InRow nx) (ltb i0 p0) (Some (i0, p0 - 1)) None (λ q. omega (arith, ltb-true i0 p0 q)) (λ q. tt)

right_in : (i1 p1 nx : ℕ) → i1 < nx → InRow nx (right_of p1 i1)
unfolding right_of
right_in i1 p1 nx h = by_test (InRow nx) (ltb p1 i1) (Some (p1 + 1, i1)) None (λ q. omega (arith, ltb-true p1 i1 q)) (λ q. tt)

abbrev pub BothIn : ℕ → Crescent → Type 0
BothIn nx k = InRow nx k.left × InRow nx k.right

pub less_in : (nx : ℕ) (s q : Span) → InRow nx s → BothIn nx (less s q)
unfolding less
less_in nx None q h = (tt, tt)
less_in nx (Some (i0, i1)) None h = (h, tt)
less_in nx (Some (i0, i1)) (Some (p0, p1)) h =
    by_test (BothIn nx) (leb p0 i1 && leb i0 p1) (two (left_of i0 p0) (right_of p1 i1)) (two (Some (i0, i1)) None)
    (λ a. (left_in_lem i0 i1 p0 nx h.1 (leb-true p0 i1 (both (leb p0 i1) (leb i0 p1) a).0), right_in i1 p1 nx h.1))
    (λ a. (h, tt))

pub crescent_in : (g : Grid) (prev c : Vec2) (r : Float) (j : ℕ) → Sides g → BothIn g.nx (crescent_row g prev c r j)
unfolding crescent_row
crescent_in g prev c r j s = less_in g.nx (disk_row g c r j) (disk_row g prev r j) (disk_in g c r j s)

-- the first cell of row j has the number base
pub in_map : (j ny nx n base : ℕ) → base ≡ j * nx → j < ny → ny * nx ≤ n → (s : Span) → InRow nx s → Inside base n s
in_map j ny nx n base e h k None r = tt
in_map j ny nx n base e h k (Some (a, b)) r = let l = row_below j ny nx n h k in (omega (arith, r.0), omega (arith, r.1))

-- the next row begins nx cells on
pub next_base : (j nx base : ℕ) → base ≡ j * nx → base + nx ≡ (j + 1) * nx
next_base j nx base e = let l : (j + 1) * nx ≡ j * nx + 1 * nx = add-mul j 1 nx in omega arith

pub last-below : (j1 : Float) (ny : ℕ) → 0 < ny → last_row j1 ny < ny
unfolding last_row
last-below j1 ny h = by_test (λ (n : ℕ). n < ny) (lt j1 f0) 0 (min (to_unsigned 64 j1) (ny - 1)) (λ p. h) (λ p. omega arith)

pub rows-below : (g : Grid) (c : Vec2) (r : Float) → 0 < g.ny → (rows_of g c r).1 < g.ny
unfolding rows_of
rows-below g c r h = last-below (floor_of (cell_at (add binary64 c.y r) g.origin.y g.cell)) g.ny h

pub last_within : (g : Grid) (c : Vec2) (r : Float) (rows : Rows) → rows ≡ rows_of g c r → 0 < g.ny → rows.1 < g.ny
last_within g c r rows e h = subst (λ (q : Rows). q.1 < g.ny) (sym e) (rows-below g c r h)

-- a row of the disk and its columns, by what the code knows of them
module _ (g : Grid) (c : Vec2) (r : Float) (rows : Rows) (n : ℕ) (e : rows ≡ rows_of g c r) (o : Over g n) (j : ℕ) (h : j < rows.1 + 1) where
  pub row-on : j < g.ny
  row-on = let told : rows.1 < g.ny = last_within g c r rows e o.sides.high in omega arith

  pub row-ends : j * g.nx + g.nx ≤ n
  row-ends = row_below j g.ny g.nx n row-on o.long

  pub row-inside : (p : Span) → InRow g.nx p → Inside (j * g.nx) n p
  row-inside p q = in_map j g.ny g.nx n (j * g.nx) refl row-on o.long p q
