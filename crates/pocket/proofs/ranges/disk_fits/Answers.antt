-- `pocket::ranges::disk_fits` meets its contract. Assumes nothing.
use Rattle.pocket.specs.Ranges.{disk_fit}
use Rattle.pocket.proofs.AskedLaws.{both_are}
use Rattle.pocket.proofs.ranges.disk_fits.Goals as goal

pub returns : goal.returns
unfolding disk_fit
returns c = both_are c.point_fits.ensures c.radius_fits.ensures
