-- `events::list::read_one` meets its contract. Assumes nothing.
use borrow.Author.Tests.{eq-eqb, ne_eqb}
use Rattle.events.specs.Read.{read_one}
use Rattle.events.proofs.list.read_one.Goals as goal

pub returns-then-kind-eq1 : goal.returns-then-kind-eq1
unfolding read_one
returns-then-kind-eq1 c = rw (eq-eqb _ _ c.if-kind-eq1.true, ← c.spot.ensures, ← c.value.ensures)

pub returns-then-kind-eq2 : goal.returns-then-kind-eq2
unfolding read_one
returns-then-kind-eq2 c = rw (ne_eqb _ _ c.if-kind-eq1.false, eq-eqb _ _ c.if-kind-eq2.true, ← c.spot-then-kind-eq2.ensures)

pub returns-then-kind-eq3 : goal.returns-then-kind-eq3
unfolding read_one
returns-then-kind-eq3 c = rw (ne_eqb _ _ c.if-kind-eq1.false, ne_eqb _ _ c.if-kind-eq2.false, eq-eqb _ _ c.if-kind-eq3.true, ← c.spot-then-kind-eq3.ensures)

pub returns : goal.returns
unfolding read_one
returns c = rw (ne_eqb _ _ c.if-kind-eq1.false, ne_eqb _ _ c.if-kind-eq2.false, ne_eqb _ _ c.if-kind-eq3.false)
