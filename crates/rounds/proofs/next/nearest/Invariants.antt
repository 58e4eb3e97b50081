-- `rounds::next::nearest` meets its contract. Assumes nothing.
use Rattle.rounds.proofs.NextLaws.{Foremost}
use Rattle.rounds.proofs.next.nearest.Given as goal

abbrev pub invariant-loop-k : goal.invariant-loop-k
invariant-loop-k l = Foremost l.m l.rows l.pts l.to l.best l.k
