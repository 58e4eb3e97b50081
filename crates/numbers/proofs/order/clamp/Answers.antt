-- `numbers::order::clamp` meets its contract: each arm returns what the definition's two tests pick. Assumes nothing.
use Rattle.numbers.specs.Order.{clamp_of}
use Rattle.numbers.proofs.order.clamp.Goals as goal

pub returns-then-hi-lo : goal.returns-then-hi-lo
unfolding clamp_of
returns-then-hi-lo c = rw (c.if-x-lo.true, c.if-hi-lo.true)

pub returns-else-hi-lo : goal.returns-else-hi-lo
unfolding clamp_of
returns-else-hi-lo c = rw (c.if-x-lo.true, c.if-hi-lo.false)

pub returns-then-hi-x : goal.returns-then-hi-x
unfolding clamp_of
returns-then-hi-x c = rw (c.if-x-lo.false, c.if-hi-x.true)

pub returns-else-hi-x : goal.returns-else-hi-x
unfolding clamp_of
returns-else-hi-x c = rw (c.if-x-lo.false, c.if-hi-x.false)
