-- `setup::limits::guard_of` meets its contract. Assumes nothing.
use Rattle.setup.specs.Limits.{guard_of}
use Rattle.setup.proofs.limits.guard_of.Goals as goal

pub returns : goal.returns
unfolding guard_of
returns c = rw (c.max.ensures, c.min-margin.ensures)
