-- `passes::shifts::ease` meets its contract. Assumes nothing.
use Rattle.passes.proofs.ShiftLaws.{ease_some, ease_none}
use Rattle.passes.proofs.shifts.ease.Goals as goal

pub returns-then-shift : goal.returns-then-shift
returns-then-shift c = ease_some _ _ _ _ _ _ _ _ c.if-shift.true _ _ c.max-sh.ensures c.try_shift.ensures

pub returns : goal.returns
returns c = ease_none _ _ _ _ _ _ _ _ c.if-shift.false
