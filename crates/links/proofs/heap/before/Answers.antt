-- `links::heap::before` meets its contract. Assumes nothing.
use mathlib.Core.Path.{sym, ◌∙◌}
use lib.Dec.{ltb}
use Rattle.std.specs.declared.cmp.Ordering.TheVariants.{Less, Equal, Greater}
use Rattle.links.specs.Heap.{settled}
use Rattle.links.proofs.OrderLaws.{before-less, before-greater, before_by}
use Rattle.links.proofs.heap.before.Goals as goal

pub returns-then-a-b : goal.returns-then-a-b
returns-then-a-b c = before-less _ _ c.struct_known-1.given.0 c.struct_known-2-1.given.0 c.if-a-b.true

pub returns-then-b-a : goal.returns-then-b-a
returns-then-b-a c = before-greater _ _ c.struct_known-1.given.0 c.struct_known-2-1.given.0 c.if-b-a.true

pub returns-in-Less : goal.returns-in-Less
unfolding settled
returns-in-Less c = before_by _ _ Less (sym c.in-Less.is ∙ c.total_cmp-o.ensures)

pub returns-in-Equal : goal.returns-in-Equal
unfolding settled
returns-in-Equal c = (λ i. ltb (c.from.ensures i) (c.from-in-Equal.ensures i)) ∙ before_by _ _ Equal (sym c.in-Equal.is ∙ c.total_cmp-o.ensures)

pub returns-in-Greater : goal.returns-in-Greater
unfolding settled
returns-in-Greater c = before_by _ _ Greater (sym c.in-Greater.is ∙ c.total_cmp-o.ensures)
