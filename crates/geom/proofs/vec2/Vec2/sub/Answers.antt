-- `geom::vec2::Vec2::sub` meets its contract. Assumes nothing.
use mathlib.Core.Path.{refl}
use Rattle.geom.specs.Vec.{difference}
use Rattle.geom.proofs.vec2.Vec2.sub.Goals as goal

pub returns : goal.returns
unfolding difference
returns c = refl
