-- `contours::square::nearer` meets its contract. Assumes nothing.
use Rattle.contours.proofs.SquareLaws.{nearer-yes, nearer-no}
use Rattle.contours.proofs.square.nearer.Goals as goal

pub returns-then-d-n : goal.returns-then-d-n
returns-then-d-n c = nearer-yes _ _ _ _ c.distance-d.ensures c.if-d-n.true

pub returns : goal.returns
returns c = nearer-no _ _ _ _ c.distance-d.ensures c.if-d-n.false
