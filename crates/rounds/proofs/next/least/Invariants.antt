-- `rounds::next::least` meets its contract. Assumes nothing.
use Rattle.rounds.proofs.NextLaws.{Closest}
use Rattle.rounds.proofs.next.least.Given as goal

abbrev pub invariant-loop-k : goal.invariant-loop-k
invariant-loop-k l = Closest l.pts l.to l.first l.n l.so l.k
