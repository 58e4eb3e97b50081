-- `pocket::ranges::root_fits` meets its contract. Assumes nothing.
use mathlib.Core.Path.{refl}
use Rattle.pocket.specs.Ranges.{root_fit}
use Rattle.pocket.proofs.ranges.root_fits.Goals as goal

pub returns : goal.returns
unfolding root_fit
returns c = rw c.is_finite.ensures refl
