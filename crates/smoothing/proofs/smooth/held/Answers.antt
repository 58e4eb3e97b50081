-- `smoothing::smooth::held` meets its contract. Assumes nothing.
use Rattle.smoothing.specs.Smooth.{held_at}
use Rattle.smoothing.proofs.smooth.held.Goals as goal

pub returns-then-closed : goal.returns-then-closed
unfolding held_at
returns-then-closed c = rw c.if-closed.true

pub returns : goal.returns
unfolding held_at
returns c = rw c.if-closed.false
