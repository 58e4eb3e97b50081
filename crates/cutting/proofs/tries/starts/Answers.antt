-- `cutting::tries::starts` meets its contract. Assumes nothing.
use Rattle.cutting.specs.Tries.{starts_of}
use Rattle.cutting.proofs.tries.starts.Goals as goal

pub returns-then-closed : goal.returns-then-closed
unfolding starts_of
returns-then-closed c = rw c.if-closed.true

pub returns : goal.returns
unfolding starts_of
returns c = rw c.if-closed.false
