-- `geom::region::crossing` meets its contract. Assumes nothing.
use mathlib.Core.Path.{refl}
use Rattle.geom.specs.Region.{crossing_of}
use Rattle.geom.proofs.region.crossing.Goals as goal

pub returns : goal.returns
unfolding crossing_of
returns c = refl
