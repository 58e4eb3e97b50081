-- `passes::worth::cut_length` meets its contract. Assumes nothing.
use native.Mathlib.Omega.{arith}
use Rattle.loops.proofs.LoopLaws.{going_none, going_more, going_end}
use Rattle.passes.proofs.WorthLaws.{spots_leg, spots-total}
use Rattle.passes.proofs.worth.cut_length.Goals as goal

pub loop-k-init : goal.loop-k-init
loop-k-init c = going_none _ _ _ _

pub overflow_add-first : goal.overflow_add-first
overflow_add-first c = omega (arith, c.loop-k-test.true, c.requires, c.well_formed)

pub overflow_sub-first : goal.overflow_sub-first
overflow_sub-first c = omega (arith, c.loop-k.invariant.low)

pub spot-a-requires : goal.spot-a-requires
spot-a-requires c = omega (arith, c.loop-k-test.true, c.loop-k.invariant.low, c.requires)

pub overflow_add-first-in-loop-k : goal.overflow_add-first-in-loop-k
overflow_add-first-in-loop-k c = omega (arith, c.loop-k-test.true, c.requires, c.well_formed)

pub spot-requires : goal.spot-requires
spot-requires c = omega (arith, c.loop-k-test.true, c.requires)

pub loop-k-preserved : goal.loop-k-preserved
loop-k-preserved c = going_more _ _ _ _ _ _ _ c.loop-k.invariant c.loop-k-test.true (spots_leg _ _ _ _ _ _ _ _ c.loop-k.invariant.low c.loop-k-test.true c.spot-a.ensures c.spot.ensures c.distance-t.ensures)

pub returns : goal.returns
returns c = spots-total _ _ _ _ (going_end _ _ _ _ _ _ c.loop-k.invariant c.loop-k-test.false)
