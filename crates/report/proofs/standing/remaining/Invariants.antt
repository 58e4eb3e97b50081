-- `report::standing::remaining` meets its contract. Assumes nothing.
use lib.ListN.{length}
use Rattle.loops.proofs.LoopLaws.{Going}
use Rattle.report.specs.Report.{rem, remain_at}
use Rattle.report.proofs.standing.remaining.Given as goal

abbrev pub invariant-loop-k : goal.invariant-loop-k
invariant-loop-k l = Going (remain_at l.map l.reachable) 0 (length l.map) (rem 0 0) l.t l.k
