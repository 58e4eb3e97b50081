-- `passes::trial::sample` meets its contract. Assumes nothing.
use Rattle.passes.proofs.SimulateLaws.{sample_is}
use Rattle.passes.proofs.trial.sample.Goals as goal

pub returns : goal.returns
returns c = sample_is _ _ _ _ _ c.float_of.ensures c.float_of-2.ensures c.lerp.ensures
