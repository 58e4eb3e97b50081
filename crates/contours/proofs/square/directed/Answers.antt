-- `contours::square::directed` meets its contract. Assumes nothing.
use Rattle.contours.proofs.SquareLaws.{directed_back, directed_on}
use Rattle.contours.proofs.square.directed.Goals as goal

pub returns-then-turned : goal.returns-then-turned
returns-then-turned c = directed_back _ _ _ _ _ _ _ _ _ c.crossing-pa.ensures c.crossing-pb.ensures c.corners_of.ensures c.turned.ensures c.if-turned.true

pub returns : goal.returns
returns c = directed_on _ _ _ _ _ _ _ _ _ c.crossing-pa.ensures c.crossing-pb.ensures c.corners_of.ensures c.turned.ensures c.if-turned.false
