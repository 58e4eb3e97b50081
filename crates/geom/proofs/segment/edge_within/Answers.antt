-- `geom::segment::edge_within` meets its contract. Assumes nothing.
use Rattle.geom.proofs.SegmentLaws.{a_square, edge-is}
use Rattle.geom.proofs.segment.edge_within.Goals as goal

pub root_below-requires : goal.root_below-requires
root_below-requires c = a_square _ _ _ _ c.seg_square.ensures

pub returns : goal.returns
returns c = let s = c.args in
    edge-is s.vs.now s.at s.n s.p s.r.r s.i _ _ _ _ _ c.vertex-a.ensures c.next.ensures.0 c.vertex-b.ensures c.seg_square.ensures c.root_below.ensures
