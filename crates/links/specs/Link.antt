-- A way of straight feeds through cleared space, `link_path` of adaptive.rs: straight, or over the lattice. It is a function of the job and the map alone. Definitions only.
use Rattle.std.specs.Prelude.{cond, List, [], ◌∷◌, ℕ, ◌*◌, take, Float, None, Option, Some}
use Rattle.geom.specs.declared.vec2.Vec2.{Vec2}
use Rattle.distance.specs.Nearest.{squares_of}
use Rattle.raster.specs.Grid.{cell_of}
use Rattle.setup.specs.declared.Setup.{Setup}
use Rattle.links.specs.declared.lattice.Lattice.{Lattice}
use Rattle.links.specs.declared.link.Route.{Route}
use Rattle.links.specs.Lattice.{lattice_of, nodes}
use Rattle.links.specs.Search.{seek_of, words_in}
use Rattle.links.specs.Straight.{link_clear}
use Rattle.links.specs.Path.{Way, lost, way, nodes_of, shorten_of, path_in, way_at}

-- the way, if there is one, and the work of its search
pub record Linked : Type 0 where
  pub path : Way
  pub work : ℕ

abbrev pub linked : Way → ℕ → Linked
linked p n = record { path = p; work = n }

-- over the lattice: the distances to stock, the search, the path back, its shortening
unfoldable pub around_of : Setup → List Float → List Float → List ℕ → List ℕ → List ℕ → Vec2 → Vec2 → Lattice → Linked
around_of s wall vs lens m allowed a b l =
    let o = seek_of l allowed (squares_of 1 m l.grid.nx l.grid.ny) in
    linked (cond o.sought.found (shorten_of (link_clear s wall vs lens m) (nodes_of l o.before b) a) lost) (o.sought.expanded * 8)

-- between the cells of the ends, if both are on the raster
unfoldable pub between_of : Setup → List Float → List Float → List ℕ → List ℕ → List ℕ → Vec2 → Vec2 → Option (ℕ × ℕ) → Option (ℕ × ℕ) → Linked
between_of s wall vs lens m allowed a b None z = linked lost 0
between_of s wall vs lens m allowed a b (Some (i, j)) None = linked lost 0
between_of s wall vs lens m allowed a b (Some (i, j)) (Some (p, q)) = around_of s wall vs lens m allowed a b (lattice_of s i j p q)

unfoldable pub link_path : Setup → List Float → List Float → List ℕ → List ℕ → List ℕ → Vec2 → Vec2 → Linked
link_path s wall vs lens m allowed a b =
    cond (link_clear s wall vs lens m a b) (linked (way (b ∷ [])) 0) (between_of s wall vs lens m allowed a b (cell_of s.grid a) (cell_of s.grid b))

-- the way that an answer tells of, its points in the path's part of the workspace
abbrev pub way_by : Route → List Float → Way
way_by r path = way_at r.points path

abbrev pub route : Option ℕ → ℕ → Route
route points work = record { points = points; work = work }

abbrev pub linked_in : Setup → Route → List Float → Linked
linked_in s r w = linked (way_by r (path_in s w)) r.work

-- the nodes before, in the u32 of the search
abbrev pub before_in : Lattice → List ℕ → List ℕ
before_in l u = take (nodes l) (words_in l u)
