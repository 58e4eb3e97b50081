-- `helix::enter::end_of` meets its contract. Assumes nothing.
use lib.Ieee.{of_bits}
use Rattle.events.specs.Replay.{helix_end}
use Rattle.helix.proofs.enter.end_of.Goals as goal

pub returns : goal.returns
unfolding helix_end of_bits
returns c = c.add.ensures
