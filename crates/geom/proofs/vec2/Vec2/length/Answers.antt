-- `geom::vec2::Vec2::length` meets its contract. Assumes nothing.
use Rattle.geom.specs.Vec.{length_of}
use Rattle.geom.proofs.vec2.Vec2.length.Goals as goal

pub returns : goal.returns
unfolding length_of
returns c = c.sqrt.ensures
