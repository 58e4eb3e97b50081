-- `cutting::listing::moves_of` meets its contract. Assumes nothing.
use mathlib.Core.Path.{sym}
use Rattle.cutting.proofs.ListingLaws.{along_moves, lost_moves}
use Rattle.cutting.proofs.listing.moves_of.Goals as goal

pub returns-in-Some : goal.returns-in-Some
returns-in-Some c = sym (along_moves _ _ c.in-Some.is)

pub returns-in-None : goal.returns-in-None
returns-in-None c = sym (lost_moves _ c.in-None.is)
