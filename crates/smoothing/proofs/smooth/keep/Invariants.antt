-- `smoothing::smooth::keep` meets its contract. Assumes nothing.
use Rattle.loops.proofs.LoopLaws.{Going}
use Rattle.smoothing.specs.Smooth.{kpt, keep_put}
use Rattle.smoothing.proofs.smooth.keep.Given as goal

abbrev pub invariant-loop-k : goal.invariant-loop-k
invariant-loop-k l = Going (keep_put l.cell.r) 1 l.n (kpt l.initial.pts 1) (kpt l.pts l.kept) l.k
