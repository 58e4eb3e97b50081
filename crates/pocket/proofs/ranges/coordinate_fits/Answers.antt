-- `pocket::ranges::coordinate_fits` meets its contract. Assumes nothing.
use mathlib.Core.Path.{refl}
use Rattle.pocket.specs.Ranges.{coordinate_fit}
use Rattle.pocket.proofs.ranges.coordinate_fits.Goals as goal

pub returns : goal.returns
unfolding coordinate_fit
returns c = rw (c.is_finite.ensures, c.abs.ensures) refl
