-- `flood::place::is_open` meets its contract. Assumes nothing.
use Rattle.flood.proofs.PlaceLaws.{open_is}
use Rattle.flood.proofs.place.is_open.Goals as goal

pub returns : goal.returns
returns c = open_is _ _ _ c.requires.k_lt_n _ _ c.reach-reach.ensures c.abandoned-abandoned.ensures
