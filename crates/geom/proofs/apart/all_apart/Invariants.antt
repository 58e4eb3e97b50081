-- `geom::apart::all_apart` meets its contract. The invariant: no edge of a loop before the next comes near, and `at` is where that one starts. Assumes nothing.
use mathlib.Core.Path.{◌≡◌}
use Prim.Native.Nat.{◌≤◌}
use Rattle.loops.specs.Loop.{any}
use Rattle.geom.specs.Region.{start_of}
use Rattle.geom.specs.Segment.{within}
use Rattle.geom.specs.Apart.{Apart}
use Rattle.geom.proofs.apart.all_apart.Given as goal

abbrev pub invariant-loop-n : goal.invariant-loop-n
invariant-loop-n l = (l.n-index ≤ l.fn.g.loops) × Apart l.c (λ p. any (within l.vs l.fn.lens l.fn.g p l.r) 0 l.n-index) × (l.at ≡ start_of l.fn.lens l.fn.g l.n-index)
