-- `abi::of_cutting::place` meets its contract. Assumes nothing.
use Rattle.abi.proofs.of_cutting.place.Goals as goal

pub returns-then-down : goal.returns-then-down
returns-then-down c = rw c.if-down.true
