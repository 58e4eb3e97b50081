-- `pocket::ranges::contact_fits` meets its contract. Assumes nothing.
use mathlib.Core.Path.{refl}
use Rattle.pocket.specs.Ranges.{contact_fit}
use Rattle.pocket.proofs.ranges.contact_fits.Goals as goal

pub returns : goal.returns
unfolding contact_fit
returns c = refl
