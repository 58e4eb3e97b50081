-- `pocket::ranges::grid_fits` meets its contract. Assumes nothing.
use Rattle.pocket.specs.Ranges.{grid_fit}
use Rattle.pocket.proofs.AskedLaws.{both_are}
use Rattle.pocket.proofs.ranges.grid_fits.Goals as goal

pub returns : goal.returns
unfolding grid_fit
returns c = both_are c.point_fits.ensures c.cell_fits.ensures
