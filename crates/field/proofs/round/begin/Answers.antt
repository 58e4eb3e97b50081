-- `field::round::begin` meets its contract. Assumes nothing.
use lib.Ieee.{div, of_bits}
use Rattle.field.proofs.RoundLaws.{begun_all}
use Rattle.field.proofs.round.begin.Goals as goal

pub returns-then-all : goal.returns-then-all
unfolding div of_bits
returns-then-all c = begun_all _ c.requires.sides _ c.cells-n.ensures _ _ _ c.if-all.true c.requires.nx_in_bounds (c.fill.ensures.after (λ y h. h))
