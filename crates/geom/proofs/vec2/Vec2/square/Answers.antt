-- `geom::vec2::Vec2::square` meets its contract. Assumes nothing.
use mathlib.Core.Path.{refl}
use Rattle.geom.specs.Vec.{square_of}
use Rattle.geom.proofs.vec2.Vec2.square.Goals as goal

pub returns : goal.returns
unfolding square_of
returns c = refl
