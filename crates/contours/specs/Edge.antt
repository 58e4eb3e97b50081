-- The edges between neighbouring cell centres, and where a field crosses a level on one: the closures `h_id`, `v_id` and `point` of adaptive.rs. Definitions only.
use Rattle.std.specs.Prelude.{ℕ, ◌+◌, ◌*◌, ◌/◌, ◌%◌, ◌<◌, Bool, cond, List, ◌==◌, slice_index_or, Float}
use Rattle.std.specs.Float.{nan, binary64}
use Rattle.std.specs.Float.Ieee.{sub, div, lt}
use Rattle.numbers.specs.Order.{abs_of, clamp_of}
use Rattle.numbers.specs.Small.{f1, half, tiny}
use Rattle.geom.specs.Vec.{f0, lerp_of}
use Rattle.geom.specs.declared.vec2.Vec2.{Vec2}
use Rattle.raster.specs.Grid.{center_of}
use Rattle.raster.specs.declared.grid.Grid.{Grid}
use Rattle.raster.specs.declared.grid.CellNo.{CellNo}
use Rattle.contours.specs.declared.edge.EdgeNo.{EdgeNo}

abbrev pub edge : ℕ → EdgeNo
edge n = record { 0 = n }

-- stands for no edge
abbrev pub nothing : ℕ
nothing = 4294967295

abbrev pub same_edge : EdgeNo → EdgeNo → Bool
same_edge a b = a.0 == b.0

-- the edge to the right of cell c, and the one upward of it
unfoldable pub across_of : CellNo → EdgeNo
across_of c = record { 0 = 2 * c.0 }

unfoldable pub upward_of : CellNo → EdgeNo
upward_of c = record { 0 = 2 * c.0 + 1 }

unfoldable pub lower_of : EdgeNo → CellNo
lower_of e = record { 0 = e.0 / 2 }

unfoldable pub is_upward : EdgeNo → Bool
is_upward e = e.0 % 2 == 1

-- the number of the other cell
unfoldable pub far_of : Grid → EdgeNo → ℕ
far_of g e = cond (is_upward e) ((lower_of e).0 + g.nx) ((lower_of e).0 + 1)

-- both cells are on the grid; the other one has the larger number
pub record Between (g : Grid) (e : EdgeNo) : Type 0 where
  pub far : far_of g e < g.ny * g.nx

-- the other cell's centre; (i, j) is the lower cell
unfoldable pub far_center : Grid → EdgeNo → ℕ → ℕ → Vec2
far_center g e i j = cond (is_upward e) (center_of g i (j + 1)) (center_of g (i + 1) j)

-- how far along an edge the level is, from fa to fb
unfoldable pub along_of : Float → Float → Float → Float
along_of fa fb level =
    let d = sub binary64 fb fa in
    cond (lt (abs_of d) tiny) half (clamp_of (div binary64 (sub binary64 level fa) d) f0 f1)

-- Where the field f crosses the level on edge e. A float of the field is the same number in both formats.
unfoldable pub crossing_at : Grid → List Float → Float → EdgeNo → Vec2
crossing_at g f level e =
    let k = (lower_of e).0 in
    let i = k % g.nx in
    let j = k / g.nx in
    let t = along_of (slice_index_or f k nan) (slice_index_or f (far_of g e) nan) level in
    lerp_of (center_of g i j) (far_center g e i j) t
