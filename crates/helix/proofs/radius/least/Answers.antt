-- `helix::radius::least` meets its contract. Assumes nothing.
use mathlib.Core.Path.{refl}
use lib.Ieee.{of_bits}
use Rattle.helix.specs.Search.{least_of}
use Rattle.helix.proofs.radius.least.Goals as goal

pub returns : goal.returns
unfolding least_of of_bits
returns c = refl
