-- `passes::start::nearer` meets its contract. Assumes nothing.
use Rattle.passes.proofs.StartLaws.{nearer_new, nearer_old}
use Rattle.passes.proofs.start.nearer.Goals as goal

pub returns-then-is_nearer : goal.returns-then-is_nearer
returns-then-is_nearer c = nearer_new _ _ _ _ c.is_nearer.ensures c.if-is_nearer.true

pub returns : goal.returns
returns c = nearer_old _ _ _ _ c.is_nearer.ensures c.if-is_nearer.false
