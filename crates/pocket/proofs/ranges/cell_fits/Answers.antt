-- `pocket::ranges::cell_fits` meets its contract. Assumes nothing.
use Rattle.pocket.proofs.ranges.cell_fits.Goals as goal

pub returns : goal.returns
returns c = c.is_in_range.ensures
