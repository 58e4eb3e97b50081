-- `passes::guide::total` meets its contract. Assumes nothing.
use Rattle.loops.proofs.LoopLaws.{going_none, going_more, going_end}
use Rattle.passes.proofs.GuideLaws.{leg_added, total-is}
use Rattle.passes.proofs.guide.total.Goals as goal

pub loop-k-init : goal.loop-k-init
loop-k-init c = going_none _ _ _ _

pub overflow_sub-k : goal.overflow_sub-k
overflow_sub-k c = c.loop-k.invariant.low

pub loop-k-preserved : goal.loop-k-preserved
loop-k-preserved c = going_more _ _ _ _ _ _ _ c.loop-k.invariant c.loop-k-test.true (leg_added _ _ _ _ _ _ _ c.loop-k-test.true c.vertex-a.ensures c.vertex.ensures c.distance-t.ensures)

pub returns : goal.returns
returns c = total-is _ _ _ (going_end _ _ _ _ _ _ c.loop-k.invariant c.loop-k-test.false)
