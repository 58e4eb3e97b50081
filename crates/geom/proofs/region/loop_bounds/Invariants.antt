-- `geom::region::loop_bounds` meets its contract. Assumes nothing.
use Rattle.loops.proofs.LoopLaws.{Going}
use Rattle.geom.specs.Region.{widened_at}
use Rattle.geom.proofs.region.loop_bounds.Given as goal

abbrev pub invariant-loop-i : goal.invariant-loop-i
invariant-loop-i l = Going (widened_at l.vs l.at) 0 l.n l.initial.c l.c l.i
