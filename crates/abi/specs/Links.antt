-- Entries of the heap and ways, which C has no types for, in parts.
use Rattle.std.specs.Prelude.{ℕ, ◌≡◌, Bool, cond, List, get_or, Float, Some, None}
use Rattle.std.specs.Float.{nan}
use Rattle.numbers.specs.declared.bound.Bound.{Bound}
use Rattle.geom.specs.declared.vec2.Vec2.{Vec2}
use Rattle.geom.specs.declared.region.Region.{Region}
use Rattle.raster.specs.declared.grid.Grid.{Grid}
use Rattle.links.specs.Path.{wall_in}
use Rattle.links.specs.Link.{link_path, linked_in}
use Rattle.links.specs.declared.link.Route.{Route}
use Rattle.links.specs.declared.heap.Entry.{Entry}
use Rattle.abi.specs.Setup.{placed}

unfoldable pub entry_of : Float → ℕ → Entry
entry_of est node = record { est = est; node = record { 0 = node } }

-- the estimate that was put down, with the node that was answered
unfoldable pub popped_in : List Float → ℕ → Entry
popped_in est node = entry_of (get_or est 0 nan) node

abbrev pub route_in : Bool → List ℕ → Route
route_in found out = record { points = cond found (Some (get_or out 0 0)) None; work = get_or out 1 0 }

-- the way is that of a Setup with some bound of `keep`
pub record PathBy (g : Grid) (region : Region) (r keep : Float) (samples : ℕ) (vs : List Float) (lens m allowed : List ℕ) (w : List Float) (a b : Vec2) (route : Route) (w' : List Float) : Type 0 where
  pub bound : Bound
  pub bounds : bound.r ≡ keep
  pub is : linked_in (placed g region r bound samples) route w' ≡ link_path (placed g region r bound samples) (wall_in (placed g region r bound samples) w) vs lens m allowed a b
