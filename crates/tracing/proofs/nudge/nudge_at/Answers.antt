-- `tracing::nudge::nudge_at` meets its contract. Assumes nothing.
use Rattle.tracing.proofs.RingLaws.{nudged_there, nudged_only}
use Rattle.tracing.proofs.nudge.nudge_at.Goals as goal

pub returns : goal.returns
returns c = let P = c.nudge_inside-p.ensures in
    let R = c.put.ensures in record { w_after = nudged_there c.args.s _ _ _ c.requires.s_in_bounds _ _ _ _ c.cells-n.ensures c.traced-traced.ensures c.guide-guide.ensures _ _ _ c.vertex-q.ensures P R; only = nudged_only c.args.s _ _ _ c.requires.s_in_bounds _ _ _ _ c.cells-n.ensures c.traced-traced.ensures c.guide-guide.ensures _ _ _ c.vertex-q.ensures P R }
