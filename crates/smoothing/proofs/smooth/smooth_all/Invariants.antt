-- `smoothing::smooth::smooth_all` meets its contract. Assumes nothing.
use Rattle.smoothing.proofs.AllLaws.{SmoothedTo}
use Rattle.smoothing.proofs.smooth.smooth_all.Given as goal

abbrev pub invariant-loop-k : goal.invariant-loop-k
invariant-loop-k l = SmoothedTo l.m l.cell l.initial.rows l.initial.pts l.k l.rows l.pts
