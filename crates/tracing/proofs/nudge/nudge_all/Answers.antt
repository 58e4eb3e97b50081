-- `tracing::nudge::nudge_all` meets its contract. Assumes nothing.
use native.Mathlib.Omega.{arith}
use Rattle.tracing.proofs.RingLaws.{nudging_none, nudging_asks, nudging_more, nudging_end}
use Rattle.tracing.proofs.nudge.nudge_all.Goals as goal

pub loop-k-init : goal.loop-k-init
loop-k-init c = (omega arith, nudging_none c.args.s _ _ _ c.requires.s_in_bounds)

pub nudge_at-requires : goal.nudge_at-requires
nudge_at-requires c = let z = nudging_asks c.args.s _ _ _ c.requires.s_in_bounds _ _ c.loop-k.invariant.1 c.requires.walls in record { walls = z.0; s_in_bounds = z.1; k_bound = omega (arith, c.requires.m_bound, c.loop-k-test.true) }

pub loop-k-preserved : goal.loop-k-preserved
loop-k-preserved c = (omega arith, nudging_more c.args.s _ _ _ c.requires.s_in_bounds _ _ c.loop-k.invariant.1 _ c.nudge_at.ensures.w_after c.nudge_at.ensures.only)

pub shape_of-w : goal.shape_of-w
shape_of-w c = c.loop-k.invariant.1.only.long

pub returns : goal.returns
returns c =
    let r = nudging_end c.args.s _ _ _ c.requires.s_in_bounds _ _ c.loop-k.invariant.1 _ (omega (arith, c.loop-k.invariant.0, c.loop-k-test.false)) in
    record { w_after = r.0; only = r.1 }
