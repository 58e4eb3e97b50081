-- `tracing::nudge::look_round` meets its contract. Assumes nothing.
use Rattle.loops.proofs.LoopLaws.{going_none}
use Rattle.tracing.proofs.NudgeLaws.{looked-at, looked-on, looked-none}
use Rattle.tracing.proofs.nudge.look_round.Goals as goal

pub loop-k-init : goal.loop-k-init
loop-k-init c = going_none _ _ _ _

pub returns-then-allowed_at : goal.returns-then-allowed_at
returns-then-allowed_at c = looked-at _ _ _ _ _ c.loop-k.invariant _ _ c.around-p.ensures c.allowed_at.ensures c.loop-k-test.true c.if-allowed_at.true

pub loop-k-preserved : goal.loop-k-preserved
loop-k-preserved c = looked-on _ _ _ _ _ c.loop-k.invariant _ _ c.around-p.ensures c.allowed_at.ensures c.loop-k-test.true c.if-allowed_at.false

pub returns : goal.returns
returns c = looked-none _ _ _ _ _ c.loop-k.invariant c.loop-k-test.false
