-- `contours::square::turned` meets its contract. Assumes nothing.
use Rattle.contours.proofs.SquareLaws.{turned-is}
use Rattle.contours.proofs.square.turned.Goals as goal

pub returns : goal.returns
returns c = turned-is _ _ _ _ _ _ _ _ _ c.lerp.ensures c.nearest-c.ensures c.sub.ensures c.sub-2.ensures c.cross-left.ensures
