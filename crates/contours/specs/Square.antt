-- One square of the lattice of cell centres, as `contours` of adaptive.rs marches over it: the code of its corners, the edges that its segments join, and which way round.
-- Corners are counted from the lower left one, the right one next. Definitions only.
use Rattle.std.specs.Prelude.{ℕ, ◌+◌, ◌*◌, ◌<◌, Bool, false, cond, ◌||◌, List, ◌==◌, from_bits, is_nan, slice_index_or, Float}
use Rattle.std.specs.Bool.{beq}
use Rattle.std.specs.Float.{nan, inf, binary32}
use Rattle.std.specs.Float.Ieee.{add, mul, lt}
use Rattle.numbers.specs.Small.{half}
use Rattle.geom.specs.Vec.{f0, difference, cross_of, lerp_of, distance_of}
use Rattle.geom.specs.declared.vec2.Vec2.{Vec2}
use Rattle.raster.specs.Grid.{numbered, center_of}
use Rattle.raster.specs.declared.grid.Grid.{Grid}
use Rattle.contours.specs.Edge.{across_of, upward_of, Between, crossing_at}
use Rattle.contours.specs.declared.edge.EdgeNo.{EdgeNo}
use Rattle.contours.specs.declared.square.Square.{Square}
use Rattle.contours.specs.declared.square.Edges.{Edges}
use Rattle.contours.specs.declared.square.Segment.{Segment}
use Rattle.contours.specs.declared.square.Saddle.{Saddle}
use Rattle.contours.specs.declared.square.Corner.{Corner}
use Rattle.contours.specs.declared.square.Corners.{Corners}
use Rattle.contours.specs.declared.square.Near.{Near}

-- all four corners of the square at column i, row j are cells of the grid
pub record InGrid (g : Grid) (i j : ℕ) : Type 0 where
  pub column : i + 1 < g.nx
  pub row : j + 1 < g.ny

unfoldable pub square_at : Grid → List Float → ℕ → ℕ → Square
square_at g f i j =
    let k = j * g.nx + i in
    record { i = i; j = j; v0 = slice_index_or f k nan; v1 = slice_index_or f (k + 1) nan; v2 = slice_index_or f (k + 1 + g.nx) nan; v3 = slice_index_or f (k + g.nx) nan }

unfoldable pub has_nan : Square → Bool
has_nan q = is_nan q.v0 || (is_nan q.v1 || (is_nan q.v2 || is_nan q.v3))

-- the code has a bit for each corner that is above the level
unfoldable pub weight_of : Float → Float → ℕ → ℕ
weight_of v level w = cond (lt level v) w 0

unfoldable pub code_of : Square → Float → ℕ
code_of q level = weight_of q.v0 level 1 + weight_of q.v1 level 2 + weight_of q.v2 level 4 + weight_of q.v3 level 8

-- eb, er, et, el
unfoldable pub edges_of : Grid → ℕ → ℕ → Edges
edges_of g i j = record {
  bottom = across_of (numbered g i j);
  right = upward_of (numbered g (i + 1) j);
  top = across_of (numbered g i (j + 1));
  left = upward_of (numbered g i j);
}

abbrev pub segment : EdgeNo → EdgeNo → Segment
segment a b = record { from = a; to = b }

-- the table's pair for a code that has one; the last is code 14's
unfoldable pub cut_of : Edges → ℕ → Segment
cut_of e code =
    cond (code == 1) (segment e.bottom e.left)
    (cond (code == 2) (segment e.right e.bottom)
    (cond (code == 3) (segment e.right e.left)
    (cond (code == 4) (segment e.top e.right)
    (cond (code == 6) (segment e.top e.bottom)
    (cond (code == 7) (segment e.top e.left)
    (cond (code == 8) (segment e.left e.top)
    (cond (code == 9) (segment e.bottom e.top)
    (cond (code == 11) (segment e.right e.top)
    (cond (code == 12) (segment e.left e.right)
    (cond (code == 13) (segment e.bottom e.right)
    (segment e.left e.bottom)))))))))))

-- 0.25
abbrev quarter : Float
quarter = from_bits binary32 0x3e80_0000

-- the centre of a saddle is above the level
unfoldable pub joined_of : Square → Float → Bool
joined_of q level = lt level (mul binary32 (add binary32 (add binary32 (add binary32 q.v0 q.v1) q.v2) q.v3) quarter)

abbrev saddle : Segment → Segment → Saddle
saddle a b = record { first = a; second = b }

-- the two segments of code 5, and of code 10
unfoldable pub saddle_of : Edges → ℕ → Bool → Saddle
saddle_of e code joined =
    cond (code == 5)
    (cond joined
    (saddle (segment e.bottom e.left) (segment e.top e.right))
    (saddle (segment e.bottom e.right) (segment e.top e.left)))
    (cond joined
    (saddle (segment e.right e.bottom) (segment e.left e.top))
    (saddle (segment e.right e.top) (segment e.left e.bottom)))

-- both edges lie between cells of the grid
pub record Joins (g : Grid) (s : Segment) : Type 0 where
  pub from : Between g s.from
  pub to : Between g s.to

-- ---- which way round

abbrev corner : Vec2 → Float → Corner
corner p v = record { at = p; v = v }

unfoldable pub corners_of : Grid → Square → Corners
corners_of g q = record {
  c0 = corner (center_of g q.i q.j) q.v0;
  c1 = corner (center_of g (q.i + 1) q.j) q.v1;
  c2 = corner (center_of g (q.i + 1) (q.j + 1)) q.v2;
  c3 = corner (center_of g q.i (q.j + 1)) q.v3;
}

abbrev pub near_at : Corner → Float → Near
near_at c d = record { corner = c; distance = d }

-- a corner takes the place of one that is farther
unfoldable pub nearer_of : Vec2 → Corner → Near → Near
nearer_of mid c n = cond (lt (distance_of c.at mid) n.distance) (near_at c (distance_of c.at mid)) n

-- the fold begins with corner 0 at infinity
unfoldable pub nearest_of : Corners → Vec2 → Corner
nearest_of cs mid = (nearer_of mid cs.c3 (nearer_of mid cs.c2 (nearer_of mid cs.c1 (nearer_of mid cs.c0 (near_at cs.c0 (inf false)))))).corner

-- left == high, of the corner nearest to the middle
unfoldable pub turned_of : Corners → Float → Vec2 → Vec2 → Bool
turned_of cs level a b =
    let c = nearest_of cs (lerp_of a b half) in
    beq (lt f0 (cross_of (difference b a) (difference c.at a))) (lt level c.v)

unfoldable pub directed_of : Grid → List Float → Float → Square → Segment → Segment
directed_of g f level q s =
    cond (turned_of (corners_of g q) level (crossing_at g f level s.from) (crossing_at g f level s.to)) (segment s.to s.from) s
