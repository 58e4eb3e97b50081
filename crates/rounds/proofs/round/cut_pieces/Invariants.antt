-- `rounds::round::cut_pieces` meets its contract. Assumes nothing.
use Prim.Native.Nat.{◌-◌}
use Rattle.rounds.specs.Next.{swap_remove}
use Rattle.rounds.specs.Round.{nearest_first}
use Rattle.rounds.proofs.RoundLaws.{Cutting}
use Rattle.rounds.proofs.round.cut_pieces.Given as goal

abbrev pub invariant-loop-i : goal.invariant-loop-i
invariant-loop-i l = Cutting l.s l.vs l.lens l.initial.b l.initial.u l.initial.w l.initial.triples l.initial.rows l.initial.at l.m nearest_first swap_remove (l.m - l.i) l.b l.u l.w l.triples l.rows l.at l.any l.i
