-- Loops and regions over lent vertices, as geom.rs has them. A loop is n vertices from the vertex `at` on. Definitions only.
use Rattle.std.specs.Prelude.{ℕ, ◌+◌, ◌-◌, ◌*◌, ◌≤◌, ◌<◌, Bool, true, false, not, ◌&&◌, cond, List, length, get_or, eqb, Float}
use Rattle.std.specs.Bool.{beq}
use Rattle.std.specs.Float.{nan, inf, binary64}
use Rattle.std.specs.Float.Ieee.{add, sub, mul, div, lt}
use Rattle.loops.specs.Loop.{loop, any}
use Rattle.numbers.specs.Order.{min_of, max_of}
use Rattle.geom.specs.Vec.{v2}
use Rattle.geom.specs.declared.vec2.Vec2.{Vec2}
use Rattle.geom.specs.declared.region.Region.{Region}
use Rattle.geom.specs.declared.region.Corners.{Corners}

-- vertex k of the lent coordinates
unfoldable pub vertex_of : List Float → ℕ → Vec2
vertex_of vs k = v2 (get_or vs (2 * k) nan) (get_or vs (2 * k + 1) nan)

-- (a.y > y) != (b.y > y)
unfoldable pub straddles_of : Vec2 → Vec2 → Float → Bool
straddles_of a b y = not (beq (lt y a.y) (lt y b.y))

-- a.x + (y - a.y) / (b.y - a.y) * (b.x - a.x)
unfoldable pub crossing_of : Vec2 → Vec2 → Float → Float
crossing_of a b y = add binary64 a.x (mul binary64 (div binary64 (sub binary64 y a.y) (sub binary64 b.y a.y)) (sub binary64 b.x a.x))

-- the vertex before vertex i of a loop of n, and the one after it
abbrev pub before : ℕ → ℕ → ℕ
before n i = cond (eqb i 0) (n - 1) (i - 1)

abbrev pub after : ℕ → ℕ → ℕ
after n i = cond (eqb (i + 1) n) 0 (i + 1)

-- an edge that crosses the row of p to its right turns the answer round
unfoldable pub turned : Vec2 → Vec2 → Vec2 → Bool → Bool
turned p a b s = cond (straddles_of a b p.y) (cond (lt p.x (crossing_of a b p.y)) (not s) s) s

-- edge i of a loop, from vertex i to the one before it
abbrev pub edge_at : List Float → ℕ → ℕ → Vec2 → ℕ → Bool → Bool
edge_at vs at n p i s = turned p (vertex_of vs (at + i)) (vertex_of vs (at + before n i)) s

unfoldable pub point_in_loop : List Float → ℕ → ℕ → Vec2 → Bool
point_in_loop vs at n p = loop (edge_at vs at n p) 0 n false

-- ---- a region: loop l has `size_of` vertices from `start_of` on; loop 0 is the outer one, the others are islands

abbrev pub size_of : List ℕ → Region → ℕ → ℕ
size_of lens g l = get_or lens (g.first + l) 0

unfoldable pub start_of : List ℕ → Region → ℕ → ℕ
start_of lens g l = loop (λ k s. s + size_of lens g k) 0 l g.at

-- the lengths and the vertices of the region are lent
pub record Held (vs : List Float) (lens : List ℕ) (g : Region) : Type 0 where
  pub some : 0 < g.loops
  pub sizes : g.first + g.loops ≤ length lens
  pub vertices : 2 * start_of lens g g.loops ≤ length vs

unfoldable pub inside_loop : List Float → List ℕ → Region → Vec2 → ℕ → Bool
inside_loop vs lens g p l = point_in_loop vs (start_of lens g l) (size_of lens g l) p

unfoldable pub in_island : List Float → List ℕ → Region → Vec2 → Bool
in_island vs lens g p = any (inside_loop vs lens g p) 1 g.loops

unfoldable pub contains_of : List Float → List ℕ → Region → Vec2 → Bool
contains_of vs lens g p = inside_loop vs lens g p 0 && not (in_island vs lens g p)

-- ---- the corners of the outer loop

abbrev pub corners : Vec2 → Vec2 → Corners
corners lo hi = record { lo = lo; hi = hi }

unfoldable pub widened : Vec2 → Corners → Corners
widened p c = corners (v2 (min_of c.lo.x p.x) (min_of c.lo.y p.y)) (v2 (max_of c.hi.x p.x) (max_of c.hi.y p.y))

-- to vertex i of a loop
abbrev pub widened_at : List Float → ℕ → ℕ → Corners → Corners
widened_at vs at i c = widened (vertex_of vs (at + i)) c

unfoldable pub loop_bounds : List Float → ℕ → ℕ → Corners
loop_bounds vs at n = loop (widened_at vs at) 0 n (corners (v2 (inf false) (inf false)) (v2 (inf true) (inf true)))

unfoldable pub bounds_of : List Float → List ℕ → Region → Corners
bounds_of vs lens g = loop_bounds vs (start_of lens g 0) (size_of lens g 0)
