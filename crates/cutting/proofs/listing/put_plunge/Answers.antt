-- `cutting::listing::put_plunge` meets its contract. Assumes nothing.
use mathlib.Core.Path.{◌∙◌}
use Rattle.cutting.proofs.ListingLaws.{plunge-put}
use Rattle.cutting.proofs.listing.put_plunge.Goals as goal

pub returns : goal.returns
returns c = let p = plunge-put _ _ _ _ _ in record { triples_after = c.put_triple.ensures ∙ p.0; rows_after = c.put_row.ensures ∙ p.1 }
