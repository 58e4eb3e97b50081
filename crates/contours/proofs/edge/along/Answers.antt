-- `contours::edge::along` meets its contract. Assumes nothing.
use Rattle.contours.specs.Edge.{along_of}
use Rattle.contours.proofs.edge.along.Goals as goal

pub returns-then-abs : goal.returns-then-abs
unfolding along_of
returns-then-abs c = rw (← c.abs.ensures, c.if-abs.true)

pub returns-else-abs : goal.returns-else-abs
unfolding along_of
returns-else-abs c = rw (← c.abs.ensures, c.if-abs.false) c.clamp.ensures
