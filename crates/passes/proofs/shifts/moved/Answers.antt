-- `passes::shifts::moved` meets its contract. Assumes nothing.
use Rattle.passes.proofs.ShiftLaws.{moved-is}
use Rattle.passes.proofs.shifts.moved.Goals as goal

pub returns : goal.returns
returns c = moved-is _ _ _ _ _ c.scale.ensures c.add.ensures
