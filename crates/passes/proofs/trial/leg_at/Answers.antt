-- `passes::trial::leg_at` meets its contract. Assumes nothing.
use Rattle.passes.proofs.SimulateLaws.{leg_ends}
use Rattle.passes.proofs.trial.leg_at.Goals as goal

pub returns : goal.returns
returns c = leg_ends _ _ _ _ _ _ c.vertex-a.ensures c.vertex-b.ensures c.leg_of.ensures
