-- `start::ready::setup_of` meets its contract. Assumes nothing.
use Rattle.start.proofs.ready.setup_of.Goals as goal

pub returns : goal.returns
returns c = rw (← c.pocket_of-region.ensures) c.new.ensures
