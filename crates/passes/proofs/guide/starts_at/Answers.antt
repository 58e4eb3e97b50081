-- `passes::guide::starts_at` meets its contract. Assumes nothing.
use Rattle.setup.specs.Place.{allowed_at, free_at}
use Rattle.passes.proofs.GuideLaws.{starts_yes, starts_no}
use Rattle.passes.proofs.guide.starts_at.Goals as goal

pub returns-then-allowed_at : goal.returns-then-allowed_at
returns-then-allowed_at c = starts_yes (allowed_at _ _ _ _) (free_at _ _) _ _ _ c.allowed_at.ensures c.if-allowed_at.true c.free.ensures

pub returns : goal.returns
returns c = starts_no (allowed_at _ _ _ _) (free_at _ _) _ _ c.allowed_at.ensures c.if-allowed_at.false
