-- `contours::square::code_of` meets its contract. Assumes nothing.
use Rattle.std.proofs.Common.{arith}
use Rattle.contours.specs.Square.{code_of}
use Rattle.contours.proofs.SquareLaws.{few}
use Rattle.contours.proofs.square.code_of.Goals as goal

pub overflow_add-result : goal.overflow_add-result
overflow_add-result c = omega (arith, few _ _ _ _ c.weight.ensures, few _ _ _ _ c.weight-2.ensures)

pub overflow_add-result-2 : goal.overflow_add-result-2
overflow_add-result-2 c = omega (arith, few _ _ _ _ c.weight.ensures, few _ _ _ _ c.weight-2.ensures, few _ _ _ _ c.weight-3.ensures)

pub overflow_add-result-3 : goal.overflow_add-result-3
overflow_add-result-3 c = omega (arith, few _ _ _ _ c.weight.ensures, few _ _ _ _ c.weight-2.ensures, few _ _ _ _ c.weight-3.ensures, few _ _ _ _ c.weight-4.ensures)

pub returns : goal.returns
unfolding code_of
returns c = rw (← c.weight.ensures, ← c.weight-2.ensures, ← c.weight-3.ensures, ← c.weight-4.ensures)
