-- `rims::offsets::middle_of` meets its contract. Assumes nothing.
use Rattle.rims.specs.Offsets.{middle_of}
use Rattle.rims.proofs.offsets.middle_of.Goals as goal

pub returns : goal.returns
unfolding middle_of
returns c = rw (← c.float_of.ensures)
