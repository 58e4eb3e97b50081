-- `passes::shifts::probe_at` meets its contract. Assumes nothing.
use Rattle.passes.proofs.ShiftLaws.{probe_yes, probe_no}
use Rattle.passes.proofs.shifts.probe_at.Goals as goal

pub returns-then-allowed_at : goal.returns-then-allowed_at
returns-then-allowed_at c = probe_yes _ _ _ _ _ c.allowed_at.ensures c.if-allowed_at.true _ c.contact_wide-contact.ensures

pub returns : goal.returns
returns c = probe_no _ _ _ _ _ c.allowed_at.ensures c.if-allowed_at.false
