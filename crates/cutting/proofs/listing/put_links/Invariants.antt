-- `cutting::listing::put_links` meets its contract. Assumes nothing.
use Rattle.cutting.proofs.ListingLaws.{Linking}
use Rattle.cutting.proofs.listing.put_links.Given as goal

abbrev pub invariant-loop-k : goal.invariant-loop-k
invariant-loop-k l = Linking l.path l.n l.first l.row l.initial.triples l.initial.rows l.triples l.rows l.k
