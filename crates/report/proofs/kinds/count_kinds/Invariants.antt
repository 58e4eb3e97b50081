-- `report::kinds::count_kinds` meets its contract. Assumes nothing.
use Rattle.loops.proofs.LoopLaws.{Going}
use Rattle.report.specs.Kinds.{kinds, count_row}
use Rattle.report.proofs.kinds.count_kinds.Given as goal

abbrev pub invariant-loop-k : goal.invariant-loop-k
invariant-loop-k l = Going (count_row l.rows l.triples) 0 l.n (kinds 0 0 0 0) l.t l.k
