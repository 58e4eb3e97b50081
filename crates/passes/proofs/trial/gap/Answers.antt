-- `passes::trial::gap` meets its contract. Assumes nothing.
use Rattle.passes.proofs.SimulateLaws.{gap_is}
use Rattle.passes.proofs.trial.gap.Goals as goal

pub returns : goal.returns
returns c = gap_is _ _ _ _ _ c.distance.ensures
