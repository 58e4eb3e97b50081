-- `cutting::listing::greatest` meets its contract. Assumes nothing.
use Rattle.cutting.proofs.RoomLaws.{Greatest}
use Rattle.cutting.proofs.listing.greatest.Given as goal

abbrev pub invariant-loop-k : goal.invariant-loop-k
invariant-loop-k l = Greatest l.triples l.first l.n l.so l.m l.k
