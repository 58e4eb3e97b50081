use Rattle.geom.proofs.SegmentLaws.{point-square}
use Rattle.smoothing.proofs.SmoothLaws.{keep-far, keep-near}
use Rattle.smoothing.proofs.smooth.keep_at.Goals as goal

pub root_reaches-requires : goal.root_reaches-requires
root_reaches-requires c = point-square _ _ _ c.square.ensures

pub returns-then-root_reaches : goal.returns-then-root_reaches
returns-then-root_reaches c = keep-far _ _ _ _ _ _ _ _ c.vertex-p.ensures c.vertex-last.ensures c.square.ensures c.root_reaches.ensures c.if-root_reaches.true _ c.put.ensures

pub returns : goal.returns
returns c = keep-near _ _ _ _ _ _ _ _ c.vertex-p.ensures c.vertex-last.ensures c.square.ensures c.root_reaches.ensures c.if-root_reaches.false
