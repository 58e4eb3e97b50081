-- `pocket::ranges::angle_fits` meets its contract. Assumes nothing.
use Rattle.pocket.proofs.ranges.angle_fits.Goals as goal

pub returns : goal.returns
returns c = c.is_in_range.ensures
