-- `geom::segment::loop_within` meets its contract. The invariant: no edge before i is within. Assumes nothing.
use mathlib.Core.Bool.{false}
use Rattle.loops.specs.Loop.{or_at}
use Rattle.loops.proofs.LoopLaws.{Going}
use Rattle.geom.specs.Segment.{edge_within}
use Rattle.geom.proofs.segment.loop_within.Given as goal

abbrev pub invariant-loop-i : goal.invariant-loop-i
invariant-loop-i l = Going (or_at (edge_within l.vs l.at l.n l.p l.r.r)) 0 l.n false false l.i
