-- `geom::region::point_in_loop` meets its contract. The invariant: the answer is what the edges so far leave, and b is the vertex before vertex i. Assumes nothing.
use mathlib.Core.Path.{◌≡◌}
use mathlib.Core.Bool.{false}
use Prim.Native.Nat.{◌+◌}
use Rattle.loops.proofs.LoopLaws.{Going}
use Rattle.geom.specs.Region.{vertex_of, before, edge_at}
use Rattle.geom.proofs.region.point_in_loop.Given as goal

abbrev pub invariant-loop-i : goal.invariant-loop-i
invariant-loop-i l = Going (edge_at l.vs l.at l.n l.p) 0 l.n false l.inside l.i × (l.b ≡ vertex_of l.vs (l.at + before l.n l.i))
