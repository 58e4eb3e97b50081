-- `geom::segment::seg_square` meets its contract. Assumes nothing.
use Rattle.geom.proofs.SegmentLaws.{square-is}
use Rattle.geom.proofs.segment.seg_square.Goals as goal

pub returns : goal.returns
returns c = square-is _ _ _ _ _ _ _ _ c.sub-ab.ensures c.along_of-t.ensures c.scale.ensures c.add.ensures c.square.ensures
