-- `vectors_maps::fill::vertices` meets its contract. The invariant: the floats so far are written. Assumes nothing.
use Rattle.std.proofs.Common.{◌+◌, set}
use Rattle.loops.proofs.LoopLaws.{Going}
use Rattle.vectors_maps.specs.Maps.{float_at}
use Rattle.vectors_maps.proofs.fill.vertices.Given as goal

abbrev pub invariant-loop-k : goal.invariant-loop-k
invariant-loop-k l = Going (λ j w. set w j (float_at l.s (j + 11))) 0 48 l.initial.vs l.vs l.k
