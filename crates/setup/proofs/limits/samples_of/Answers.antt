-- `setup::limits::samples_of` meets its contract. Assumes nothing.
use Rattle.setup.proofs.LimitLaws.{samples-is}
use Rattle.setup.proofs.limits.samples_of.Goals as goal

pub returns : goal.returns
returns c = samples-is _ _ _ _ c.ceil.ensures c.sat_u64-n.ensures _ c.clamp.ensures
