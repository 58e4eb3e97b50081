-- `geom::region::in_island` meets its contract. The invariant: none of the islands before the next has p, and `at` is where that one starts. Assumes nothing.
use mathlib.Core.Path.{◌≡◌}
use mathlib.Core.Bool.{false}
use Prim.Native.Nat.{◌+◌}
use Rattle.loops.specs.Loop.{or_at}
use Rattle.loops.proofs.LoopLaws.{Going}
use Rattle.geom.specs.Region.{start_of, inside_loop}
use Rattle.geom.proofs.region.in_island.Given as goal

abbrev pub invariant-loop-n : goal.invariant-loop-n
invariant-loop-n l = Going (or_at (inside_loop l.vs l.fn.lens l.fn.g l.p)) 1 l.fn.g.loops false false (l.n-index + 1) × (l.at ≡ start_of l.fn.lens l.fn.g (l.n-index + 1))
