-- `plan::turns::plan` meets its contract. Assumes nothing.
use Rattle.plan.proofs.TurnsLaws.{Planning}
use Rattle.plan.proofs.turns.plan.Given as goal

abbrev pub invariant-loop-k : goal.invariant-loop-k
invariant-loop-k l = Planning l.s l.vs l.lens l.pref l.initial.b l.initial.u l.initial.f l.initial.w l.initial.triples l.initial.rows l.b l.u l.f l.w l.triples l.rows l.p l.k
