-- `field::band::end_of` meets its contract. Assumes nothing.
use native.Mathlib.Omega.{arith}
use borrow.Author.Tests.{ne_eqb}
use Rattle.field.proofs.BandLaws.{unmarked_none, unmarked_part, unmarked_down}
use Rattle.field.proofs.band.end_of.Goals as goal

pub loop-k-init : goal.loop-k-init
loop-k-init c = (omega arith, unmarked_none _ _)

pub returns-then-marks-k-eq1 : goal.returns-then-marks-k-eq1
returns-then-marks-k-eq1 c = let i = c.loop-k.invariant in (omega (arith, i.0, c.loop-k-test.true), unmarked_part _ _ _ _ _ i.1 (omega (arith, c.loop-k-test.true)) (omega arith))

pub loop-k-preserved : goal.loop-k-preserved
loop-k-preserved c = let i = c.loop-k.invariant in
    (omega (arith, i.0), unmarked_down _ _ _ (unmarked_part _ _ _ _ _ i.1 (omega (arith, c.loop-k-test.true)) (omega arith)) (ne_eqb _ _ c.if-marks-k-eq1.false))

pub returns : goal.returns
returns c = let i = c.loop-k.invariant in (omega arith, unmarked_part _ _ _ _ _ i.1 (omega (arith, c.loop-k-test.false)) (omega arith))
