-- `numbers::order::total_cmp` meets its contract. Assumes nothing.
use Rattle.numbers.proofs.OrderLaws.{total-less, total-greater, total_equal}
use Rattle.numbers.proofs.order.total_cmp.Goals as goal

pub returns-then-p-q : goal.returns-then-p-q
returns-then-p-q c = let s = c.args in total-less s.a s.b c.rank-p.ensures c.rank-q.ensures c.if-p-q.true

pub returns-then-q-p : goal.returns-then-q-p
returns-then-q-p c = let s = c.args in total-greater s.a s.b c.rank-p.ensures c.rank-q.ensures c.if-q-p.true

pub returns-else-q-p : goal.returns-else-q-p
returns-else-q-p c = let s = c.args in total_equal s.a s.b c.rank-p.ensures c.rank-q.ensures c.if-p-q.false c.if-q-p.false
