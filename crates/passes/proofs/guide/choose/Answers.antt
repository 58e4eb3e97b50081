-- `passes::guide::choose` meets its contract. The invariant: no way out before k serves. Assumes nothing.
use Rattle.loops.proofs.LoopLaws.{going_none, going_on, going_out, going_end}
use Rattle.passes.proofs.GuideLaws.{len_is, attempt-yes, attempt-no, choose_short, choose_out, choose_none}
use Rattle.passes.proofs.guide.choose.Goals as goal

pub returns-then-len-cell : goal.returns-then-len-cell
returns-then-len-cell c = choose_short _ _ _ _ _ (len_is _ _ _ _ c.total.ensures c.min-len.ensures) c.if-len-cell.true

pub loop-k-init : goal.loop-k-init
loop-k-init c = going_none _ _ _ _

pub returns-then-starts_at : goal.returns-then-starts_at
returns-then-starts_at c = choose_out _ _ _ _ _ (len_is _ _ _ _ c.total.ensures c.min-len.ensures) c.if-len-cell.false _
    (going_out _ _ _ _ _ _ _ c.loop-k.invariant c.loop-k-test.true (attempt-yes _ _ _ _ _ _ _ _ _ _ c.bite_of-bite.ensures c.far_of-far.ensures c.first_bent-q.ensures c.starts_at.ensures c.if-starts_at.true))

pub loop-k-preserved : goal.loop-k-preserved
loop-k-preserved c = going_on _ _ _ _ _ _ _ c.loop-k.invariant c.loop-k-test.true (attempt-no _ _ _ _ _ _ _ _ _ _ c.bite_of-bite.ensures c.far_of-far.ensures c.first_bent-q.ensures c.starts_at.ensures c.if-starts_at.false)

pub returns : goal.returns
returns c = choose_none _ _ _ _ _ (len_is _ _ _ _ c.total.ensures c.min-len.ensures) c.if-len-cell.false (going_end _ _ _ _ _ _ c.loop-k.invariant c.loop-k-test.false)
