-- `geom::vec2::Vec2::lerp` meets its contract. Assumes nothing.
use mathlib.Core.Path.{refl}
use Rattle.geom.specs.Vec.{lerp_of}
use Rattle.geom.proofs.vec2.Vec2.lerp.Goals as goal

pub returns : goal.returns
unfolding lerp_of
returns c = refl
