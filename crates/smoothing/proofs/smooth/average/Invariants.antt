-- `smoothing::smooth::average` meets its contract. Assumes nothing.
use Rattle.loops.proofs.LoopLaws.{Going}
use Rattle.smoothing.specs.Smooth.{avg, average_put}
use Rattle.smoothing.proofs.smooth.average.Given as goal

abbrev pub invariant-loop-k : goal.invariant-loop-k
invariant-loop-k l = Going (average_put l.closed l.n l.first) 0 l.n (avg l.initial.pts l.initial.prev) (avg l.pts l.prev) l.k
