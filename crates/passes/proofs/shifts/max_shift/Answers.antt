-- `passes::shifts::max_shift` meets its contract. Assumes nothing.
use Rattle.passes.proofs.ShiftLaws.{max_is}
use Rattle.passes.proofs.shifts.max_shift.Goals as goal

pub returns : goal.returns
returns c = max_is _ _ c.bite_of.ensures
