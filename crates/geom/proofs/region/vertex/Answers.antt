-- `geom::region::vertex` meets its contract. Assumes nothing.
use mathlib.Core.Path.{refl}
use Rattle.geom.specs.Region.{vertex_of}
use Rattle.geom.proofs.region.vertex.Goals as goal

pub returns : goal.returns
unfolding vertex_of
returns c = refl
