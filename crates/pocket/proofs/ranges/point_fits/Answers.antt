-- `pocket::ranges::point_fits` meets its contract. Assumes nothing.
use Rattle.pocket.specs.Ranges.{point_fit}
use Rattle.pocket.proofs.AskedLaws.{both_are}
use Rattle.pocket.proofs.ranges.point_fits.Goals as goal

pub returns : goal.returns
unfolding point_fit
returns c = both_are c.coordinate_fits.ensures c.coordinate_fits-2.ensures
