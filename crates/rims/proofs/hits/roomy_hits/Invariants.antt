-- `rims::hits::roomy_hits` meets its contract. The invariant: the hits are those of the samples so far. Assumes nothing.
use Rattle.loops.proofs.LoopLaws.{Going}
use Rattle.raster.specs.Grid.{center_of}
use Rattle.raster.specs.Contact.{hit_at}
use Rattle.rims.proofs.hits.roomy_hits.Given as goal

abbrev pub invariant-loop-k : goal.invariant-loop-k
invariant-loop-k l = Going (hit_at l.g l.map (center_of l.g l.i l.j) l.r l.n) 0 l.n 0 l.h l.k
