-- `tracing::nudge::around` meets its contract. Assumes nothing.
use Rattle.tracing.specs.Ring.{around_of}
use Rattle.tracing.proofs.nudge.around.Goals as goal

pub returns : goal.returns
unfolding around_of
returns c = rw (← c.float_of.ensures, ← c.float_of-2.ensures, ← c.from_angle.ensures, ← c.scale.ensures) c.add.ensures
