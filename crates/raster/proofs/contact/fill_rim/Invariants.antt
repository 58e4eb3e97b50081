-- `raster::contact::fill_rim` meets its contract. The invariant: the table is what the samples so far leave. Assumes nothing.
use Rattle.loops.proofs.LoopLaws.{Going}
use Rattle.raster.specs.Contact.{put_rim}
use Rattle.raster.proofs.contact.fill_rim.Given as goal

abbrev pub invariant-loop-k : goal.invariant-loop-k
invariant-loop-k l = Going (put_rim l.n) 0 l.n l.initial.rim l.rim l.k
