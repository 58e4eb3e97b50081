-- `examples::guard_halves` meets its contract. Assumes nothing.
use Rattle.examples.specs.Examples.{guard_half}
use Rattle.std.proofs.Common.{rules}
use Rattle.examples.proofs.guard_halves.Goals as goal

pub returns : goal.returns
unfolding guard_half
returns c = rw (c.guard_of.ensures, c.cell_of.ensures, c.to_radians-limit.ensures)
