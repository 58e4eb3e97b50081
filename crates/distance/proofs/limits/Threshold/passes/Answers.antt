-- `distance::limits::Threshold::passes` meets its contract. Assumes nothing.
use Rattle.distance.specs.Limits.{passes_of}
use Rattle.distance.proofs.limits.Threshold.passes.Goals as goal

pub returns-then-self : goal.returns-then-self
unfolding passes_of
returns-then-self c = rw (c.if-self.true, c.length-v.ensures)

pub returns-else-self : goal.returns-else-self
unfolding passes_of
returns-else-self c = rw (c.if-self.false, c.length-v.ensures)
