-- `rounds::round::cut_ring` meets its contract. Assumes nothing.
use Rattle.rounds.specs.Round.{in_order, all_stay}
use Rattle.rounds.proofs.RoundLaws.{Cutting}
use Rattle.rounds.proofs.round.cut_ring.Given as goal

abbrev pub invariant-loop-i : goal.invariant-loop-i
invariant-loop-i l = Cutting l.s l.vs l.lens l.initial.b l.initial.u l.initial.w l.initial.triples l.initial.rows l.initial.at l.m in_order all_stay l.m l.b l.u l.w l.triples l.rows l.at l.any l.i
