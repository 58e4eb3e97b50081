-- `contours::square::corners_of` meets its contract. Assumes nothing.
use Rattle.contours.proofs.SquareLaws.{corners_are}
use Rattle.contours.proofs.square.corners_of.Goals as goal

pub returns : goal.returns
returns c = corners_are _ _ _ _ _ _ c.center.ensures c.center-2.ensures c.center-3.ensures c.center-4.ensures
