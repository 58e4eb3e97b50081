-- `geom::vec2::Vec2::normalized` meets its contract. Assumes nothing.
use Rattle.geom.specs.Vec.{normalized_of}
use Rattle.geom.proofs.vec2.Vec2.normalized.Goals as goal

pub returns-then-l : goal.returns-then-l
unfolding normalized_of
returns-then-l c = rw (← c.length-l.ensures, c.if-l.true)

pub returns-else-l : goal.returns-else-l
unfolding normalized_of
returns-else-l c = rw (← c.length-l.ensures, c.if-l.false)
