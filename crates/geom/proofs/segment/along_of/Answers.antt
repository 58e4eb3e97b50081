-- `geom::segment::along_of` meets its contract. Assumes nothing.
use Rattle.geom.proofs.SegmentLaws.{along-start, along-on}
use Rattle.geom.proofs.segment.along_of.Goals as goal

pub returns-then-l2 : goal.returns-then-l2
returns-then-l2 c = along-start _ _ _ _ c.dot-l2.ensures c.if-l2.true

pub returns-else-l2 : goal.returns-else-l2
returns-else-l2 c = along-on _ _ _ _ c.dot-l2.ensures c.if-l2.false _ _ _ c.sub.ensures c.dot.ensures c.clamp.ensures
