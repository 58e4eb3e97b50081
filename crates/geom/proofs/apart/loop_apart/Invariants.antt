-- `geom::apart::loop_apart` meets its contract. The invariant: no edge before i comes near. Assumes nothing.
use Prim.Native.Nat.{◌≤◌}
use Rattle.loops.specs.Loop.{any}
use Rattle.geom.specs.Segment.{edge_within}
use Rattle.geom.specs.Apart.{Apart}
use Rattle.geom.proofs.apart.loop_apart.Given as goal

abbrev pub invariant-loop-i : goal.invariant-loop-i
invariant-loop-i l = (l.i ≤ l.n) × Apart l.c (λ p. any (edge_within l.vs l.at l.n p l.r) 0 l.i)
