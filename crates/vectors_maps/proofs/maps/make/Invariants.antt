-- `vectors_maps::maps::make` meets its contract. The invariant: the cells so far are made. Assumes nothing.
use Rattle.loops.proofs.LoopLaws.{Going}
use Rattle.vectors_maps.specs.Maps.{making, make_cell}
use Rattle.vectors_maps.proofs.maps.make.Given as goal

abbrev pub invariant-loop-k : goal.invariant-loop-k
invariant-loop-k l = Going (make_cell l.share) 0 l.n (making l.seed l.initial.map) (making l.x l.map) l.k
