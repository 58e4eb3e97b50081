-- `rounds::next::nearest` meets its contract. Assumes nothing.
use native.Mathlib.Omega.{arith}
use Rattle.rounds.proofs.NextLaws.{next-first, next_new, next-on, next-end}
use Rattle.rounds.proofs.next.nearest.Goals as goal
use Rattle.rounds.proofs.next.nearest.Goals.{else-comes_before, then-comes_before}

pub candidate_at-best-requires : goal.candidate_at-best-requires
candidate_at-best-requires c = record { k_in_bounds = omega (arith, c.requires.readable.lent, c.requires.le_m); read = c.requires.readable.each 0 c.requires.le_m }

pub loop-k-init : goal.loop-k-init
loop-k-init c = next-first _ _ _ _ c.requires.le_m _ c.candidate_at-best.ensures

pub candidate_at-c-requires : goal.candidate_at-c-requires
candidate_at-c-requires c = let p = c.requires.readable in record { k_in_bounds = omega (arith, p.lent, c.loop-k-test.true); read = p.each _ c.loop-k-test.true }

pub loop-k-preserved : goal.loop-k-preserved
loop-k-preserved c = let h = c.loop-k-test.true in
    let d = c.candidate_at-c.ensures in
    let l = c.loop-k.invariant in
    let t = c.comes_before.ensures in
    elim c.if-comes_before.branch [ then-comes_before w ↦ next_new _ _ _ _ _ h _ _ d l _ t _ w.if-comes_before.true w.best-is | else-comes_before w ↦ next-on _ _ _ _ _ h _ _ d l _ t _ w.if-comes_before.false w.best-is ]

pub returns : goal.returns
returns c = next-end _ _ _ _ _ _ c.loop-k.invariant c.loop-k-test.false
