-- The way to a pass, as `go_to` of adaptive.rs has it. Definitions only.
use Rattle.passes.specs.Start.{Place}
use Rattle.std.specs.Prelude.{cond, List, [], ◌∷◌, map, ℕ, Float, Option, Some, None}
use Rattle.geom.specs.declared.vec2.Vec2.{Vec2}
use Rattle.setup.specs.declared.Setup.{Setup}
use Rattle.links.specs.Path.{Way, lost, way}
use Rattle.links.specs.Link.{Linked, linked, link_path}
use Rattle.links.specs.declared.link.Route.{Route}
use Rattle.events.specs.Chunk.{Chunk, plunge, link}

-- a way is looked for where the tool is somewhere and is kept down
unfoldable pub route_of : Setup → List Float → List Float → List ℕ → List ℕ → List ℕ → Place → Vec2 → Linked
route_of s wall vs lens m allowed None q = linked lost 0
route_of s wall vs lens m allowed (Some p) q = cond s.keep_down (link_path s wall vs lens m allowed p q) (linked lost 0)

-- a link to each point of the way, or a plunge where there is none
unfoldable pub way_chunks : Way → Vec2 → List Chunk
way_chunks lost q = plunge q ∷ []
way_chunks (way ps) q = map link ps

-- how many chunks an answer's way has
abbrev pub moves_at : Option ℕ → ℕ
moves_at (Some n) = n
moves_at None = 1

unfoldable pub moves_of : Route → ℕ
moves_of r = moves_at r.points
