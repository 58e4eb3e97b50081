-- `tracing::ring::trace_ring` meets its contract. Assumes nothing.
use Rattle.tracing.proofs.RingLaws.{nudge_asks, ring_traced}
use Rattle.tracing.proofs.ring.trace_ring.Goals as goal

pub nudge_all-requires : goal.nudge_all-requires
nudge_all-requires c =
    let r = nudge_asks c.args.s _ _ _ _ _ _ c.requires.standing c.requires.s_in_bounds _ c.cells-n.ensures _ c.lay_ring.ensures _ _ _ _ _ _ c.ring-r.ensures c.trace-c.ensures.laying c.trace-c.ensures.beside in
    record { walls = r.0; s_in_bounds = r.1.0; m_bound = r.1.1 }

pub returns : goal.returns
returns c = ring_traced c.args.s _ _ _ _ _ _ c.requires.standing c.requires.s_in_bounds _ c.cells-n.ensures _ c.lay_ring.ensures _ _ _ _ _ _ c.ring-r.ensures c.trace-c.ensures.laying c.trace-c.ensures.beside _ c.nudge_all.ensures.w_after c.nudge_all.ensures.only
