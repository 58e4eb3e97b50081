-- `distance::rows::pop` meets its contract. The invariant: those from k on are beaten. Assumes nothing.
use Rattle.distance.proofs.EnvelopeLaws.{Beaten}
use Rattle.distance.proofs.rows.pop.Given as goal

abbrev pub invariant-loop-k : goal.invariant-loop-k
invariant-loop-k l = Beaten l.work l.s l.q l.key l.n l.k
