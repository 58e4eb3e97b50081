-- `passes::start::greater` meets its contract. Assumes nothing.
use Rattle.passes.specs.Start.{is_greater}
use Rattle.passes.proofs.start.greater.Goals as goal

pub returns-in-Less : goal.returns-in-Less
unfolding is_greater
returns-in-Less c = rw c.in-Less.is

pub returns-in-Equal : goal.returns-in-Equal
unfolding is_greater
returns-in-Equal c = rw c.in-Equal.is

pub returns-in-Greater : goal.returns-in-Greater
unfolding is_greater
returns-in-Greater c = rw c.in-Greater.is
