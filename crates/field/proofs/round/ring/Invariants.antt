-- `field::round::ring` meets its contract. Assumes nothing.
use lib.ListN.{length}
use lib.Ieee.{nan}
use Rattle.loops.proofs.LoopLaws.{Going}
use Rattle.field.specs.Field.{ring_at}
use Rattle.field.proofs.RoundLaws.{write_at}
use Rattle.field.proofs.round.ring.Given as goal

abbrev pub invariant-loop-k : goal.invariant-loop-k
invariant-loop-k l = Going (write_at nan (ring_at l.allowed)) 0 (length l.initial.f) l.initial.f l.f l.k
