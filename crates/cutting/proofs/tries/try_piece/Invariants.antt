-- `cutting::tries::try_piece` meets its contract. Assumes nothing.
use Rattle.cutting.proofs.TriesLaws.{Round}
use Rattle.cutting.proofs.tries.try_piece.Given as goal

abbrev pub invariant-loop-k : goal.invariant-loop-k
invariant-loop-k l = Round l.s l.vs l.lens l.initial.map l.initial.log l.initial.w l.initial.triples l.kept l.from l.m l.closed l.near l.map l.log l.w l.triples l.work l.k
