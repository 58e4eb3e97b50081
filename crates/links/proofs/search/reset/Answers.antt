-- `links::search::reset` meets its contract. Assumes nothing.
use lib.Ieee.{nan_bits}
use Rattle.links.proofs.SeekLaws.{front-filled}
use Rattle.links.proofs.search.reset.Goals as goal

pub float_from_bits-fill : goal.float_from_bits-fill
unfolding nan_bits
float_from_bits-fill c = tt
