-- `raster::contact::hits` meets its contract. The invariant: the hits are those of the samples so far. Assumes nothing.
use Rattle.loops.proofs.LoopLaws.{Going}
use Rattle.raster.specs.Contact.{hit_at}
use Rattle.raster.proofs.contact.hits.Given as goal

abbrev pub invariant-loop-sample : goal.invariant-loop-sample
invariant-loop-sample l = Going (hit_at l.g l.map l.c l.r l.n) 0 l.n 0 l.h l.sample
