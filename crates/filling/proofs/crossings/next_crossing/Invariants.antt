-- `filling::crossings::next_crossing` meets its contract. The invariant: no edge so far crosses the row, and b is the vertex before vertex i. Assumes nothing.
use mathlib.Core.Path.{◌≡◌}
use Prim.Native.Nat.{◌+◌}
use Rattle.geom.specs.Region.{vertex_of, before}
use Rattle.filling.proofs.CrossingLaws.{Seeking}
use Rattle.filling.proofs.crossings.next_crossing.Given as goal

abbrev pub invariant-loop-i : goal.invariant-loop-i
invariant-loop-i l = Seeking l.vs l.at l.n l.y l.from l.i × (l.b ≡ vertex_of l.vs (l.at + before l.n l.i))
