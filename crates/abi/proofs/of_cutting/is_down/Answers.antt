-- `abi::of_cutting::is_down` meets its contract. Assumes nothing.
use Rattle.abi.specs.Cutting.{down_of}
use Rattle.abi.proofs.of_cutting.is_down.Goals as goal

pub returns-in-Some : goal.returns-in-Some
unfolding down_of
returns-in-Some c = rw c.in-Some.is

pub returns-in-None : goal.returns-in-None
unfolding down_of
returns-in-None c = rw c.in-None.is
