-- `events::list::read_row` meets its contract. Assumes nothing.
use native.Mathlib.Omega.{arith}
use Prim.Native.Nat.{◌+◌, ◌*◌}
use borrow.Author.Tests.{eq-eqb, ne_eqb, lt-ltb, le-ltb}
use Rattle.events.specs.Read.{read_whole, read_at}
use Rattle.events.proofs.list.read_row.Goals as goal

pub returns-then-triples-n : goal.returns-then-triples-n
unfolding read_at read_whole
returns-then-triples-n c = rw (lt-ltb _ _ c.if-triples-n.true)

pub returns-then-kind-eq4 : goal.returns-then-kind-eq4
unfolding read_at read_whole
returns-then-kind-eq4 c = rw (le-ltb _ _ c.if-triples-n.false, eq-eqb _ _ c.if-kind-eq4.true)

pub returns-then-count-eq1 : goal.returns-then-count-eq1
unfolding read_at read_whole
returns-then-count-eq1 c = rw (le-ltb _ _ c.if-triples-n.false, ne_eqb _ _ c.if-kind-eq4.false, eq-eqb _ _ c.if-count-eq1.true) c.read_one.ensures

pub returns : goal.returns
unfolding read_at read_whole
returns c = rw (le-ltb _ _ c.if-triples-n.false, ne_eqb _ _ c.if-kind-eq4.false, ne_eqb _ _ c.if-count-eq1.false)
