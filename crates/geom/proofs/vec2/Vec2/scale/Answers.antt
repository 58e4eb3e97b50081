-- `geom::vec2::Vec2::scale` meets its contract. Assumes nothing.
use mathlib.Core.Path.{refl}
use Rattle.geom.specs.Vec.{scaled}
use Rattle.geom.proofs.vec2.Vec2.scale.Goals as goal

pub returns : goal.returns
unfolding scaled
returns c = refl
