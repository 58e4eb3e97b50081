-- `passes::worth::cut_length` meets its contract. Assumes nothing.
use Rattle.loops.proofs.LoopLaws.{Going}
use Rattle.geom.specs.Vec.{f0}
use Rattle.passes.specs.Guide.{add_leg}
use Rattle.passes.specs.Worth.{spots_from}
use Rattle.passes.proofs.worth.cut_length.Given as goal

abbrev pub invariant-loop-k : goal.invariant-loop-k
invariant-loop-k l = Going (add_leg (spots_from l.triples l.first l.n)) 1 l.n f0 l.t l.k
