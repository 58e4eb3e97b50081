-- An edge gives its lower cell back, and the edges of a grid are numbered below twice its cells. Assumes nothing.
use Rattle.std.proofs.Common.{◌≡◌, ℕ, ◌+◌, ◌*◌, ◌/◌, ◌%◌, ◌^◌, ◌<◌, ◌≤◌, true, false, List, get_or, ap, div-le_self, arith}
use native.Mathlib.Nat.{mod-le}
use lib.Ieee.{Float, nan}
use Rattle.loops.proofs.Cases.{by_cases}
use Rattle.geom.specs.Vec.{lerp_of}
use Rattle.geom.specs.declared.vec2.Vec2.{Vec2}
use Rattle.raster.specs.Grid.{Sides, Over, center_of}
use Rattle.raster.specs.declared.grid.Grid.{Grid}
use Rattle.raster.specs.declared.grid.CellNo.{CellNo}
use Rattle.contours.specs.Edge.{across_of, upward_of, lower_of, is_upward, far_of, Between, far_center, along_of, crossing_at}
use Rattle.contours.specs.declared.edge.EdgeNo.{EdgeNo}

abbrev cell_no : ℕ → CellNo
cell_no k = record { 0 = k }

pub lower_across : (c : CellNo) → lower_of (across_of c) ≡ c
unfolding lower_of across_of
lower_across c = ap cell_no (let z : 2 * c.0 / 2 ≡ c.0 = omega arith in z)

pub lower_upward : (c : CellNo) → lower_of (upward_of c) ≡ c
unfolding lower_of upward_of
lower_upward c = ap cell_no (let z : (2 * c.0 + 1) / 2 ≡ c.0 = omega arith in z)

pub across_flat : (c : CellNo) → is_upward (across_of c) ≡ false
unfolding is_upward across_of
across_flat c = let z : 2 * c.0 % 2 ≡ 0 = omega arith in rw z

pub upward_up : (c : CellNo) → is_upward (upward_of c) ≡ true
unfolding is_upward upward_of
upward_up c = let z : (2 * c.0 + 1) % 2 ≡ 1 = omega arith in rw z

-- the lower cell's number is the smaller one
pub lower_far : (g : Grid) (e : EdgeNo) → 0 < g.nx → (lower_of e).0 < far_of g e
unfolding far_of
lower_far g e h = by_cases (is_upward e) (λ t. rw t (omega arith)) (λ t. rw t (omega arith))

pub lower_below : (g : Grid) (e : EdgeNo) → Sides g → Between g e → (lower_of e).0 < g.ny * g.nx
lower_below g e s b = omega (arith, lower_far g e s.wide, b.far)

pub edge-below : (g : Grid) (e : EdgeNo) → Sides g → Between g e → e.0 < 2 * (g.ny * g.nx)
unfolding lower_of
edge-below g e s b = omega (arith, lower_below g e s b)

-- the edges of a cell that has a neighbour there
pub across_between : (g : Grid) (c : CellNo) → c.0 + 1 < g.ny * g.nx → Between g (across_of c)
unfolding far_of
across_between g c h = record { far = rw (across_flat c, lower_across c) h }

pub upward_between : (g : Grid) (c : CellNo) → c.0 + g.nx < g.ny * g.nx → Between g (upward_of c)
unfolding far_of
upward_between g c h = record { far = rw (upward_up c, lower_upward c) h }

-- ---- the steps of `crossing`

pub crossing_is : (g : Grid) (f : List Float) (level : Float) (e : EdgeNo) (c : CellNo) (i j k : ℕ) (fa : Float) (m : ℕ) (fb w t : Float) (p q r : Vec2)
    → c ≡ lower_of e → i ≡ c.0 % g.nx → j ≡ c.0 / g.nx → k ≡ c.0 → fa ≡ get_or f k nan → m ≡ far_of g e → fb ≡ get_or f m nan → w ≡ level
    → t ≡ along_of fa fb w → p ≡ center_of g i j → q ≡ far_center g e i j → r ≡ lerp_of p q t → r ≡ crossing_at g f level e
unfolding crossing_at
crossing_is g f level e c i j k fa m fb w t p q r C I J K A M B W T P Q R = rw (R, T, P, Q, A, B, W, M, K, I, J, C)

module _ (g : Grid) (n : ℕ) (e : EdgeNo) (o : Over g n) (b : Between g e) (c : CellNo) (C : c ≡ lower_of e) where
  cell_below : c.0 < g.ny * g.nx
  cell_below = omega (arith, ap (λ (d : CellNo). d.0) C, lower_below g e o.sides b)

  pub cell-within : (k : ℕ) → k ≡ c.0 → k < n
  cell-within k K = omega (arith, cell_below, o.long)

  pub few-columns : (i j : ℕ) → i ≡ c.0 % g.nx → j ≡ c.0 / g.nx → (i < 2 ^ 32) × (j < 2 ^ 32)
  few-columns i j I J =
      let s : g.ny * g.nx ≤ 1048576 = o.sides.cells in
      (omega (arith, cell_below, mod-le c.0 g.nx), omega (arith, cell_below, div-le_self c.0 g.nx))
