-- `plan::parts::after_pieces` meets its contract. Assumes nothing.
use Rattle.plan.proofs.PartsLaws.{pieces_kept, pieces_none}
use Rattle.plan.proofs.parts.after_pieces.Goals as goal

pub returns-then-any : goal.returns-then-any
returns-then-any c = pieces_kept c.args.p _ _ c.if-any.true

pub returns : goal.returns
returns c = pieces_none c.args.p _ _ c.if-any.false
