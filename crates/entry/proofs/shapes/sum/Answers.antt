-- `entry::shapes::sum` meets its contract. Assumes nothing.
use mathlib.Core.Path.{refl}
use native.Mathlib.Omega.{arith}
use Rattle.loops.proofs.LoopLaws.{going_none, going_more, going_end}
use Rattle.entry.specs.Regions.{sum_to}
use Rattle.entry.proofs.shapes.sum.Goals as goal

pub loop-x-init : goal.loop-x-init
loop-x-init c = (going_none _ _ _ _, omega arith)

pub loop-x-preserved : goal.loop-x-preserved
loop-x-preserved c = let l = c.loop-x in
    (going_more _ _ _ _ _ _ _ l.invariant.0 c.loop-x-test.true refl, omega (arith, c.type_inv.l l.x-index, l.invariant.1))

pub returns : goal.returns
unfolding sum_to
returns c = going_end _ _ _ _ _ _ c.loop-x.invariant.0 c.loop-x-test.false
