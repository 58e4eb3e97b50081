-- `geom::vec2::Vec2::dot` meets its contract. Assumes nothing.
use mathlib.Core.Path.{refl}
use Rattle.geom.specs.Vec.{dot_of}
use Rattle.geom.proofs.vec2.Vec2.dot.Goals as goal

pub returns : goal.returns
unfolding dot_of
returns c = refl
