-- `pocket::adaptive::params_of` meets its contract. Assumes nothing.
use Rattle.pocket.specs.Plan.{params_of}
use Rattle.pocket.proofs.adaptive.params_of.Goals as goal

pub returns : goal.returns
unfolding params_of
returns c = rw (c.setting.ensures, c.setting-2.ensures, c.setting-3.ensures)
