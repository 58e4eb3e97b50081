-- `cutting::tries::long` meets its contract. Assumes nothing.
use Rattle.cutting.specs.Tries.{guide_long}
use Rattle.cutting.proofs.tries.long.Goals as goal

pub returns-then-closed : goal.returns-then-closed
unfolding guide_long
returns-then-closed c = rw c.if-closed.true

pub returns : goal.returns
unfolding guide_long
returns c = rw c.if-closed.false
