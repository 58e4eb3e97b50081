-- `numbers::order::min` meets its contract: each arm returns what the definition's two tests pick. Assumes nothing.
use Rattle.std.proofs.Common.{sym, ◌∙◌}
use Rattle.numbers.specs.Order.{min_of}
use Rattle.numbers.proofs.WholeLaws.{differs}
use Rattle.numbers.proofs.order.min.Goals as goal

pub returns-then-b-a : goal.returns-then-b-a
unfolding min_of
returns-then-b-a c = rw c.if-b-a.true

pub returns-then-a : goal.returns-then-a
unfolding min_of
returns-then-a c = rw (c.if-b-a.false, sym (differs c.args.a) ∙ c.if-a.true)

pub returns-else-a : goal.returns-else-a
unfolding min_of
returns-else-a c = rw (c.if-b-a.false, sym (differs c.args.a) ∙ c.if-a.false)
