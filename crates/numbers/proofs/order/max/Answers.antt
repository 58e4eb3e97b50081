-- `numbers::order::max` meets its contract: each arm returns what the definition's two tests pick. Assumes nothing.
use Rattle.std.proofs.Common.{sym, ◌∙◌}
use Rattle.numbers.specs.Order.{max_of}
use Rattle.numbers.proofs.WholeLaws.{differs}
use Rattle.numbers.proofs.order.max.Goals as goal

pub returns-then-a-b : goal.returns-then-a-b
unfolding max_of
returns-then-a-b c = rw c.if-a-b.true

pub returns-then-a : goal.returns-then-a
unfolding max_of
returns-then-a c = rw (c.if-a-b.false, sym (differs c.args.a) ∙ c.if-a.true)

pub returns-else-a : goal.returns-else-a
unfolding max_of
returns-else-a c = rw (c.if-a-b.false, sym (differs c.args.a) ∙ c.if-a.false)
