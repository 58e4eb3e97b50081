-- `geom::vec2::Vec2::from_angle` meets its contract. Assumes nothing.
use Rattle.geom.specs.Vec.{from_angle}
use Rattle.geom.proofs.vec2.Vec2.from_angle.Goals as goal

pub returns : goal.returns
unfolding from_angle
returns c = rw (c.cos.ensures, c.sin.ensures)
