-- `pocket::ranges::is_in_range` meets its contract. Assumes nothing.
use mathlib.Core.Path.{refl}
use Rattle.pocket.specs.Ranges.{in_range}
use Rattle.pocket.proofs.ranges.is_in_range.Goals as goal

pub returns : goal.returns
unfolding in_range
returns c = rw c.is_finite.ensures refl
