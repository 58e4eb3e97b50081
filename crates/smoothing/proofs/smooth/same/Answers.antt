-- `smoothing::smooth::same` meets its contract. Assumes nothing.
use mathlib.Core.Path.{refl}
use Rattle.smoothing.specs.Smooth.{same_point}
use Rattle.smoothing.proofs.smooth.same.Goals as goal

pub returns : goal.returns
unfolding same_point
returns c = refl
