-- `contours::square::weight` meets its contract. Assumes nothing.
use Rattle.contours.specs.Square.{weight_of}
use Rattle.contours.proofs.square.weight.Goals as goal

pub returns-then-v-level : goal.returns-then-v-level
unfolding weight_of
returns-then-v-level c = rw c.if-v-level.true

pub returns-else-v-level : goal.returns-else-v-level
unfolding weight_of
returns-else-v-level c = rw c.if-v-level.false
