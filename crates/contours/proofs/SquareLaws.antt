-- The corners of a square are cells of the grid. The steps of `square`'s functions. Assumes nothing.
use Rattle.std.proofs.Common.{◌≡◌, ℕ, ◌+◌, ◌*◌, ◌^◌, ◌<◌, ◌≤◌, Bool, true, false, ◌||◌, List, refl, ap, ◌∙◌, le_refl, add-mul, arith}
use mathlib.Core.Bool.{beq}
use lib.Ieee.{Float, inf, lt, ne, is_nan}
use Rattle.loops.proofs.Cases.{by_cases}
use Rattle.loops.proofs.CellLaws.{row_below}
use Rattle.numbers.proofs.WholeLaws.{differs}
use Rattle.numbers.specs.Small.{half}
use Rattle.geom.specs.Vec.{f0, difference, cross_of, lerp_of, distance_of}
use Rattle.geom.specs.declared.vec2.Vec2.{Vec2}
use Rattle.raster.specs.Grid.{Sides, numbered, center_of}
use Rattle.raster.specs.declared.grid.Grid.{Grid}
use Rattle.raster.specs.declared.grid.CellNo.{CellNo}
use Rattle.raster.proofs.GridLaws.{number-below}
use Rattle.contours.specs.Edge.{across_of, upward_of, crossing_at}
use Rattle.contours.specs.Square.{InGrid, weight_of, edges_of, segment, corners_of, near_at, nearer_of, nearest_of, turned_of, directed_of}
use Rattle.contours.specs.declared.edge.EdgeNo.{EdgeNo}
use Rattle.contours.specs.declared.square.Square.{Square}
use Rattle.contours.specs.declared.square.Segment.{Segment}
use Rattle.contours.specs.declared.square.Corner.{Corner}
use Rattle.contours.specs.declared.square.Corners.{Corners}
use Rattle.contours.specs.declared.square.Near.{Near}

-- the upper right corner, which has the largest number, is a cell
pub last-below : (g : Grid) (i j : ℕ) → InGrid g i j → j * g.nx + i + 1 + g.nx < g.ny * g.nx
last-below g i j h =
    let r = row_below (j + 1) g.ny g.nx (g.ny * g.nx) h.row (le_refl _) in
    omega (arith, h.column, add-mul j 1 g.nx)

pub small-number : (g : Grid) (i j : ℕ) (c : CellNo) → Sides g → i < g.nx → j < g.ny → c ≡ numbered g i j → c.0 < 2 ^ 31
unfolding numbered
small-number g i j c s h k e =
    let z : j * g.nx + i < 1048576 = number-below g.nx g.ny i j 1048576 h k s.cells in
    omega (arith, ap (λ (d : CellNo). d.0) e)

-- ---- the steps

pub any_differs : (a b c d : Float) → ne a a || ne b b || ne c c || ne d d ≡ is_nan a || (is_nan b || (is_nan c || is_nan d))
any_differs a b c d = rw (differs a, differs b, differs c, differs d) (grouped (is_nan a) (is_nan b) (is_nan c) (is_nan d))
  where
    grouped : (p q r s : Bool) → p || q || r || s ≡ p || (q || (r || s))
    grouped true q r s = refl
    grouped false true r s = refl
    grouped false false true s = refl
    grouped false false false s = refl

-- a weight is at most what it stands for
pub few : (v level : Float) (w r : ℕ) → r ≡ weight_of v level w → r ≤ w
unfolding weight_of
few v level w r e = by_cases (lt level v)
    (λ t. let z : r ≡ w = e ∙ rw t in omega arith)
    (λ t. let z : r ≡ 0 = e ∙ rw t in omega arith)

pub edges_are : (g : Grid) (i j : ℕ) (c d u : CellNo) (b r t l : EdgeNo) → c ≡ numbered g i j → d ≡ numbered g (i + 1) j → u ≡ numbered g i (j + 1)
    → b ≡ across_of c → r ≡ upward_of d → t ≡ across_of u → l ≡ upward_of c → record { bottom = b; right = r; top = t; left = l } ≡ edges_of g i j
unfolding edges_of
edges_are g i j c d u b r t l C D U B R T L = rw (B, R, T, L, C, D, U)

pub corners_are : (g : Grid) (q : Square) (a b c d : Vec2) → a ≡ center_of g q.i q.j → b ≡ center_of g (q.i + 1) q.j → c ≡ center_of g (q.i + 1) (q.j + 1) → d ≡ center_of g q.i (q.j + 1)
    → record { c0 = record { at = a; v = q.v0 }; c1 = record { at = b; v = q.v1 }; c2 = record { at = c; v = q.v2 }; c3 = record { at = d; v = q.v3 } } ≡ corners_of g q
unfolding corners_of
corners_are g q a b c d A B C D = rw (A, B, C, D)

pub nearer-yes : (mid : Vec2) (c : Corner) (n : Near) (d : Float) → d ≡ distance_of c.at mid → lt d n.distance ≡ true → near_at c d ≡ nearer_of mid c n
unfolding nearer_of
nearer-yes mid c n d D t = rw (← D, t)

pub nearer-no : (mid : Vec2) (c : Corner) (n : Near) (d : Float) → d ≡ distance_of c.at mid → lt d n.distance ≡ false → n ≡ nearer_of mid c n
unfolding nearer_of
nearer-no mid c n d D t = rw (← D, t)

pub nearest-is : (cs : Corners) (mid : Vec2) (a b c d : Near) → a ≡ nearer_of mid cs.c0 (near_at cs.c0 (inf false)) → b ≡ nearer_of mid cs.c1 a → c ≡ nearer_of mid cs.c2 b → d ≡ nearer_of mid cs.c3 c
    → d.corner ≡ nearest_of cs mid
unfolding nearest_of
nearest-is cs mid a b c d A B C D = rw (D, C, B, A)

pub turned-is : (cs : Corners) (level : Float) (a b m : Vec2) (c : Corner) (p q : Vec2) (x : Float) → m ≡ lerp_of a b half → c ≡ nearest_of cs m → p ≡ difference b a → q ≡ difference c.at a → x ≡ cross_of p q
    → beq (lt f0 x) (lt level c.v) ≡ turned_of cs level a b
unfolding turned_of
turned-is cs level a b m c p q x M C P Q X = rw (X, P, Q, C, M)

module _ (g : Grid) (f : List Float) (level : Float) (q : Square) (s : Segment) (a b : Vec2) (cs : Corners) (t : Bool) (A : a ≡ crossing_at g f level s.from) (B : b ≡ crossing_at g f level s.to) (C : cs ≡ corners_of g q) (T : t ≡ turned_of cs level a b) where
  turns : t ≡ turned_of (corners_of g q) level (crossing_at g f level s.from) (crossing_at g f level s.to)
  turns = rw (T, A, B, C)

  pub directed_back : t ≡ true → segment s.to s.from ≡ directed_of g f level q s
  unfolding directed_of
  directed_back e = rw (← turns, e)

  pub directed_on : t ≡ false → s ≡ directed_of g f level q s
  unfolding directed_of
  directed_on e = rw (← turns, e)
