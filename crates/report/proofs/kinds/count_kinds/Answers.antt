-- `report::kinds::count_kinds` meets its contract. Assumes nothing.
use mathlib.Core.Path.{ap, ◌∙◌}
use native.Mathlib.Omega.{arith}
use Rattle.loops.proofs.LoopLaws.{going_none, going_more, going_end}
use Rattle.std.specs.Prelude.{Option}
use Rattle.events.specs.declared.list.Read.{Read}
use Rattle.report.specs.Kinds.{counting, kinds_of}
use Rattle.report.proofs.KindLaws.{going_few}
use Rattle.report.proofs.kinds.count_kinds.Goals as goal

pub loop-k-init : goal.loop-k-init
loop-k-init c = going_none _ _ _ _

pub read_row-c-requires : goal.read_row-c-requires
read_row-c-requires c = omega (arith, c.loop-k-test.true, c.requires)

pub add_kind-t-requires : goal.add_kind-t-requires
add_kind-t-requires c = let s = c.args in omega (arith, going_few s.rows.now s.triples.now s.n c.loop-k.t c.loop-k.k c.loop-k.invariant, c.loop-k-test.true, c.requires)

pub overflow_step-k : goal.overflow_step-k
overflow_step-k c = omega (arith, c.loop-k-test.true)

pub loop-k-smaller : goal.loop-k-smaller
loop-k-smaller c = omega (arith, c.loop-k-test.true)

pub loop-k-preserved : goal.loop-k-preserved
loop-k-preserved c = let l = c.loop-k in
    going_more _ _ _ _ _ _ _ l.invariant c.loop-k-test.true (c.add_kind-t.ensures ∙ ap (λ (q : Option Read). counting q l.t) c.read_row-c.ensures)

pub returns : goal.returns
unfolding kinds_of
returns c = going_end _ _ _ _ _ _ c.loop-k.invariant c.loop-k-test.false
