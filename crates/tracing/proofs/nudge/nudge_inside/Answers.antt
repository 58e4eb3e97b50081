-- `tracing::nudge::nudge_inside` meets its contract. Assumes nothing.
use Rattle.loops.proofs.LoopLaws.{going_none}
use Rattle.tracing.proofs.NudgeLaws.{nudge_none, nudge_to, nudge_on, nudge_end}
use Rattle.tracing.proofs.nudge.nudge_inside.Goals as goal

pub returns-then-allowed_at : goal.returns-then-allowed_at
returns-then-allowed_at c = nudge_none _ _ _ _ c.allowed_at.ensures c.if-allowed_at.true

pub loop-r-init : goal.loop-r-init
loop-r-init c = going_none _ _ _ _

pub returns-in-Some : goal.returns-in-Some
returns-in-Some c = nudge_to _ _ _ _ c.allowed_at.ensures c.if-allowed_at.false _ c.loop-r.invariant c.loop-r-test.true _ _ c.look_round-n.ensures c.in-Some.is

pub loop-r-preserved : goal.loop-r-preserved
loop-r-preserved c = nudge_on _ _ _ _ c.loop-r.invariant c.loop-r-test.true _ c.look_round-n.ensures c.in_default.is

pub returns : goal.returns
returns c = nudge_end _ _ _ _ c.allowed_at.ensures c.if-allowed_at.false _ c.loop-r.invariant c.loop-r-test.false
