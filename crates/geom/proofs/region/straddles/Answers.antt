-- `geom::region::straddles` meets its contract. Assumes nothing.
use mathlib.Core.Path.{refl}
use Rattle.geom.specs.Region.{straddles_of}
use Rattle.geom.proofs.region.straddles.Goals as goal

pub returns : goal.returns
unfolding straddles_of
returns c = refl
