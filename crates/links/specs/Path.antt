-- The path back from the goal and its shortening, as `link_path` of adaptive.rs has them. Definitions only.
use Rattle.std.specs.Prelude.{◌≡◌, Bool, true, ◌||◌, cond, List, [], ◌∷◌, ◌++◌, ℕ, zero, suc, ◌+◌, ◌-◌, ◌*◌, ◌≤◌, eqb, ltb, length, get_or, Float, Option, Some, None}
use Rattle.loops.specs.Regions.{within}
use Rattle.geom.specs.Points.{points}
use Rattle.geom.specs.declared.vec2.Vec2.{Vec2}
use Rattle.raster.specs.Grid.{Over}
use Rattle.setup.specs.Layout.{path_from, rim_from, tables_end, path_end}
use Rattle.setup.specs.Place.{Walls, cells_of}
use Rattle.setup.specs.Tables.{Tables}
use Rattle.setup.specs.declared.Setup.{Setup}
use Rattle.links.specs.declared.lattice.Lattice.{Lattice}
use Rattle.links.specs.Node.{node_no}
use Rattle.links.specs.Lattice.{nodes, centre_of}
use Rattle.links.specs.Search.{no_node}
use Rattle.links.specs.Straight.{link_clear}

-- ---- the path back

-- The centres of the nodes from v back to the start, at most n of them, put before ps. The Rust does not count them; a counter of nodes - 1 is never met
-- (proofs/WalkLaws.antt `path-whole`).
unfoldable pub back_of : Lattice → List ℕ → ℕ → ℕ → List Vec2 → List Vec2
back_of l before zero v ps = ps
back_of l before (suc n) v ps = cond (eqb v no_node || eqb v l.start.0) ps (back_of l before n (get_or before v 0) (centre_of l (node_no v) ∷ ps))

-- the points between the ends, and the end
unfoldable pub nodes_of : Lattice → List ℕ → Vec2 → List Vec2
nodes_of l before to = back_of l before (nodes l - 1) (get_or before l.goal.0 0) (to ∷ [])

-- ---- its shortening: from each point on to the farthest in straight view

-- `clear` tells whether a straight feed is clear, and `pt` is the path by its points' numbers: the last of the n points from `first` on that is in view
unfoldable pub farthest_of : (Vec2 → Vec2 → Bool) → (ℕ → Vec2) → Vec2 → ℕ → ℕ → Option ℕ
farthest_of clear pt here first zero = None
farthest_of clear pt here first (suc n) = cond (clear here (pt (first + n))) (Some (first + n)) (farthest_of clear pt here first n)

-- a way by its points, or none
pub data Way : Type 0 where
  lost : Way
  way : List Vec2 → Way

-- from a over ps to b: each point in straight view of the one before
abbrev pub Chained : (Vec2 → Vec2 → Bool) → Vec2 → List Vec2 → Vec2 → Type 0
Chained clear a [] b = a ≡ b
Chained clear a (p ∷ ps) b = (clear a p ≡ true) × Chained clear p ps b

-- what follows a point in view
unfoldable pub onward : Option ℕ → (ℕ → Way) → Way
onward None f = lost
onward (Some k) f = f k

-- on from `here` with the points from `first` on, the points of `path` being kept; each turn keeps one, and n is more than are left
unfoldable pub shorten_from : (Vec2 → Vec2 → Bool) → (ℕ → Vec2) → ℕ → ℕ → Vec2 → ℕ → List Vec2 → Way
shorten_from clear pt end zero here first path = lost
shorten_from clear pt end (suc n) here first path =
    cond (ltb first end) (onward (farthest_of clear pt here first (end - first)) (λ (k : ℕ). shorten_from clear pt end n (pt k) (k + 1) (path ++ (pt k ∷ [])))) (way path)

-- point k of a list that has it
abbrev pub point_in : List Vec2 → Vec2 → ℕ → Vec2
point_in ps d k = get_or ps k d

unfoldable pub shorten_of : (Vec2 → Vec2 → Bool) → List Vec2 → Vec2 → Way
shorten_of clear ps from = shorten_from clear (point_in ps from) (length ps) (length ps + 1) from 0 []

-- ---- the f64 of the workspace: wall distances, the path's points, the tool's tables

abbrev pub wall_in : Setup → List Float → List Float
wall_in s w = within 0 (cells_of s) w

abbrev pub path_in : Setup → List Float → List Float
path_in s w = within (path_from (cells_of s)) (path_end (cells_of s)) w

abbrev pub tables_in : Setup → List Float → List Float
tables_in s w = within (rim_from (cells_of s)) (tables_end (cells_of s)) w

-- whether a straight feed is clear, by what the workspace holds
abbrev pub clear_in : Setup → List Float → List ℕ → List ℕ → List Float → Vec2 → Vec2 → Bool
clear_in s vs lens m w a b = link_clear s (wall_in s w) vs lens m a b

-- what `link_clear` asks of the parts
pub record Fitted (s : Setup) (vs : List Float) (lens m : List ℕ) (w : List Float) : Type 0 where
  pub walls : Walls s (wall_in s w) vs lens
  pub over : Over s.grid (length m)
  pub tables : Tables s (tables_in s w)
  pub long : 32 * cells_of s + 8192 ≤ length w

-- a way of so many points of a path, if there is one
abbrev pub way_at : Option ℕ → List Float → Way
way_at None path = lost
way_at (Some n) path = way (points 0 n path)

-- the way that was kept, in the path's part
abbrev pub short_in : Setup → Option ℕ → List Float → Way
short_in s kept w = way_at kept (path_in s w)
