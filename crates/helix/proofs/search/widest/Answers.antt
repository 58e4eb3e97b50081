-- `helix::search::widest` meets its contract. Assumes nothing.
use lib.Ieee.{of_bits}
use Rattle.helix.specs.Search.{widest_of}
use Rattle.helix.proofs.search.widest.Goals as goal

pub returns : goal.returns
unfolding widest_of of_bits
returns c = c.min.ensures
