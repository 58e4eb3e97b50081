-- `plan::parts::after_ring` meets its contract. Assumes nothing.
use Rattle.plan.proofs.PartsLaws.{ring_kept, ring_none}
use Rattle.plan.proofs.parts.after_ring.Goals as goal

pub returns-then-any : goal.returns-then-any
returns-then-any c = ring_kept c.args.p _ _ c.if-any.true

pub returns : goal.returns
returns c = ring_none c.args.p _ _ c.if-any.false
