-- `passes::start::near_start` meets its contract. Assumes nothing.
use Rattle.passes.proofs.StartLaws.{near_none, near-some}
use Rattle.passes.proofs.start.near_start.Goals as goal

pub returns-in_default : goal.returns-in_default
returns-in_default c = near_none _ _ c.in_default.is

pub returns : goal.returns
returns c = near-some _ _ _ c.in-Some.is _ c.nearest.ensures
