-- `setup::limits::target_of` meets its contract. Assumes nothing.
use mathlib.Core.Path.{refl}
use Rattle.setup.specs.Limits.{target_of}
use Rattle.setup.proofs.limits.target_of.Goals as goal

pub returns : goal.returns
unfolding target_of
returns c = refl
