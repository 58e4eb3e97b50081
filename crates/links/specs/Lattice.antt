-- The lattice that a way is sought on, as `link_path` of adaptive.rs lays it: every k-th cell of the raster both ways, and 8 neighbours a node. Definitions only.
use Rattle.std.specs.Prelude.{Bool, false, ◌&&◌, ◌||◌, cond, List, [], ◌∷◌, ℕ, ◌+◌, ◌-◌, ◌*◌, ◌/◌, ◌%◌, ◌<◌, min, ◌≡◌, eqb, ltb, get_or, Float, Option, Some, None}
use Rattle.std.specs.Float.{binary64}
use Rattle.std.specs.Float.Ieee.{sub, div, lt, to_unsigned}
use Rattle.numbers.specs.Whole.{above, round_of}
use Rattle.numbers.specs.Order.{max_of}
use Rattle.numbers.specs.Small.{f1, f16}
use Rattle.geom.specs.declared.vec2.Vec2.{Vec2}
use Rattle.distance.specs.Rooted.{rooted_of}
use Rattle.distance.specs.declared.limits.Threshold.{Threshold}
use Rattle.raster.specs.Grid.{Sides, numbered, center_of}
use Rattle.raster.specs.declared.grid.Grid.{Grid}
use Rattle.raster.specs.declared.grid.CellNo.{CellNo}
use Rattle.setup.specs.declared.Setup.{Setup}
use Rattle.links.specs.declared.NodeNo.{NodeNo}
use Rattle.links.specs.declared.lattice.Lattice.{Lattice}

-- ((r / 16.0) / cell).round().max(1.0) as usize
unfoldable pub spacing_of : Float → Float → ℕ
spacing_of r cell = to_unsigned 64 (max_of (round_of (div binary64 (div binary64 r f16) cell)) f1)

-- the cell of lattice place a, of n cells: (a * k + k / 2).min(n - 1)
unfoldable pub along : ℕ → ℕ → ℕ → ℕ
along a k n = min (a * k + k / 2) (n - 1)

unfoldable pub centre_at : Grid → ℕ → ℕ → ℕ → Vec2
centre_at g k gi gj = center_of g (along gi k g.nx) (along gj k g.ny)

abbrev pub node_at : ℕ → ℕ → ℕ → NodeNo
node_at gx gi gj = record { 0 = gj * gx + gi }

-- the lattice with the way's ends in the cells (i, j) and (p, q)
unfoldable pub lattice_of : Setup → ℕ → ℕ → ℕ → ℕ → Lattice
lattice_of s i j p q =
    let g = s.grid in
    let k = spacing_of s.r g.cell in
    let gx = above g.nx k in
    record {
      grid = g;
      k = k;
      gx = gx;
      gy = above g.ny k;
      start = node_at gx (i / k) (j / k);
      goal = node_at gx (p / k) (q / k);
      end = centre_at g k (p / k) (q / k);
      margin = div binary64 (sub binary64 s.r g.cell) g.cell;
    }

-- how many nodes it has
abbrev pub nodes : Lattice → ℕ
nodes l = l.gy * l.gx

-- ---- a node's cell and centre

abbrev pub column_of : Lattice → NodeNo → ℕ
column_of l v = along (v.0 % l.gx) l.k l.grid.nx

abbrev pub row_of : Lattice → NodeNo → ℕ
row_of l v = along (v.0 / l.gx) l.k l.grid.ny

unfoldable pub cell_of_node : Lattice → NodeNo → CellNo
cell_of_node l v = numbered l.grid (column_of l v) (row_of l v)

unfoldable pub centre_of : Lattice → NodeNo → Vec2
centre_of l v = centre_at l.grid l.k (v.0 % l.gx) (v.0 / l.gx)

-- allowed[idx] && dist[idx] > margin; the distances to stock are given by their squares
unfoldable pub node_free : Lattice → List ℕ → List ℕ → NodeNo → Bool
node_free l allowed squares v =
    let idx = (cell_of_node l v).0 in
    eqb (get_or allowed idx 0) 1 && lt l.margin (rooted_of (get_or squares idx 0))

-- ---- neighbours

-- (-1, 0), (1, 0), (0, -1), (0, 1), (-1, -1), (1, -1), (-1, 1), (1, 1), each number one more, so that none is below 0
abbrev pub beside_x : List ℕ
beside_x = 0 ∷ 2 ∷ 1 ∷ 1 ∷ 0 ∷ 2 ∷ 0 ∷ 2 ∷ []

abbrev pub beside_y : List ℕ
beside_y = 1 ∷ 1 ∷ 0 ∷ 2 ∷ 0 ∷ 0 ∷ 2 ∷ 2 ∷ []

-- the node at (a - 1, b - 1), if the lattice has it
unfoldable pub on_lattice : Lattice → ℕ → ℕ → Option NodeNo
on_lattice l a b = cond (ltb a 1 || (ltb b 1 || (ltb l.gx a || ltb l.gy b))) None (Some (node_at l.gx (a - 1) (b - 1)))

-- neighbour d of v
unfoldable pub beside_of : Lattice → NodeNo → ℕ → Option NodeNo
beside_of l v d = on_lattice l (v.0 % l.gx + get_or beside_x d 0) (v.0 / l.gx + get_or beside_y d 0)

-- ---- what the functions ask

-- a node of the lattice
abbrev pub IsNode : Lattice → NodeNo → Type 0
IsNode l v = v.0 < nodes l

-- a lattice over a raster, its ends two of its nodes
pub record Laid (l : Lattice) : Type 0 where
  pub sides : Sides l.grid
  pub step : 0 < l.k
  pub columns : l.gx ≡ above l.grid.nx l.k
  pub rows : l.gy ≡ above l.grid.ny l.k
  pub first : IsNode l l.start
  pub last : IsNode l l.goal

-- a distance is to be at most x
abbrev pub bound_of : Float → Threshold
bound_of x = record { scale = None; strict = false; x = x }

-- the words tell of each node's cell what the squares do: whether it is farther from stock than the margin
pub record Telling (l : Lattice) (squares words : List ℕ) : Type 0 where
  pub node : (v : NodeNo) → IsNode l v → lt l.margin (rooted_of (get_or words (cell_of_node l v).0 0)) ≡ lt l.margin (rooted_of (get_or squares (cell_of_node l v).0 0))
