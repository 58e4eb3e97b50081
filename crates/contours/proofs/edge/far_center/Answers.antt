-- `contours::edge::far_center` meets its contract. Assumes nothing.
use Rattle.contours.specs.Edge.{far_center}
use Rattle.contours.proofs.edge.far_center.Goals as goal

pub returns-then-is_upward : goal.returns-then-is_upward
unfolding far_center
returns-then-is_upward c = rw (← c.is_upward.ensures, c.if-is_upward.true) c.center.ensures

pub returns-else-is_upward : goal.returns-else-is_upward
unfolding far_center
returns-else-is_upward c = rw (← c.is_upward.ensures, c.if-is_upward.false) c.center-else-is_upward.ensures
