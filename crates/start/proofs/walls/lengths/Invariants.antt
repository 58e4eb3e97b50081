-- `start::walls::lengths` meets its contract. Assumes nothing.
use lib.ListN.{length}
use lib.Ieee.{nan}
use Rattle.loops.proofs.LoopLaws.{Going}
use Rattle.field.proofs.RoundLaws.{write_at}
use Rattle.start.specs.Steps.{length_at}
use Rattle.start.proofs.walls.lengths.Given as goal

abbrev pub invariant-loop-k : goal.invariant-loop-k
invariant-loop-k l = Going (write_at nan (length_at l.cell l.squares)) 0 (length l.initial.wall) l.initial.wall l.wall l.k
