-- `passes::shifts::try_shift` meets its contract. Assumes nothing.
use Rattle.passes.proofs.ShiftLaws.{try_taken, try_left, try_barred}
use Rattle.passes.proofs.shifts.try_shift.Goals as goal

pub returns-then-angle-limit : goal.returns-then-angle-limit
returns-then-angle-limit c = try_taken _ _ _ _ _ _ _ _ _ _ c.moved-at.ensures c.probe_at-p.ensures _ _ _ c.in-Some.is c.sat_add-w.ensures c.angle_of-angle.ensures c.if-angle-limit.true

pub returns-in_default : goal.returns-in_default
returns-in_default c = try_barred _ _ _ _ _ _ _ _ _ _ c.moved-at.ensures c.probe_at-p.ensures c.in_default.is

pub returns : goal.returns
returns c = try_left _ _ _ _ _ _ _ _ _ _ c.moved-at.ensures c.probe_at-p.ensures _ _ _ c.in-Some.is c.sat_add-w.ensures c.angle_of-angle.ensures c.if-angle-limit.false
