-- `geom::segment::any_within` meets its contract. The invariant: no loop before the next has an edge within, and `at` is where that one starts. Assumes nothing.
use mathlib.Core.Path.{◌≡◌}
use mathlib.Core.Bool.{false}
use Rattle.loops.specs.Loop.{or_at}
use Rattle.loops.proofs.LoopLaws.{Going}
use Rattle.geom.specs.Region.{start_of}
use Rattle.geom.specs.Segment.{within}
use Rattle.geom.proofs.segment.any_within.Given as goal

abbrev pub invariant-loop-n : goal.invariant-loop-n
invariant-loop-n l = Going (or_at (within l.vs l.fn.lens l.fn.g l.p l.r.r)) 0 l.fn.g.loops false false l.n-index × (l.at ≡ start_of l.fn.lens l.fn.g l.n-index)
