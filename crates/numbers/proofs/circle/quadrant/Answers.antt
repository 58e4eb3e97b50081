-- `numbers::circle::quadrant` meets its contract: the four tests are those of the definition. Assumes nothing.
use Rattle.std.proofs.Common.{lit≤}
use lib.Ieee.{of_bits, of_int}
use Rattle.numbers.specs.Circle.{quadrant_of}
use Rattle.numbers.proofs.circle.quadrant.Goals as goal

pub returns-then-a : goal.returns-then-a
unfolding quadrant_of of_bits of_int
returns-then-a c = (rw c.if-a.true, lit≤ tt)

pub returns-then-a-2 : goal.returns-then-a-2
unfolding quadrant_of of_bits of_int
returns-then-a-2 c = (rw (c.if-a.false, c.if-a-2.true), lit≤ tt)

pub returns-then-a-3 : goal.returns-then-a-3
unfolding quadrant_of of_bits of_int
returns-then-a-3 c = (rw (c.if-a.false, c.if-a-2.false, c.if-a-3.true), lit≤ tt)

pub returns-then-a-4 : goal.returns-then-a-4
unfolding quadrant_of of_bits of_int
returns-then-a-4 c = (rw (c.if-a.false, c.if-a-2.false, c.if-a-3.false, c.if-a-4.true), lit≤ tt)

pub returns-else-a-4 : goal.returns-else-a-4
unfolding quadrant_of of_bits of_int
returns-else-a-4 c = (rw (c.if-a.false, c.if-a-2.false, c.if-a-3.false, c.if-a-4.false), lit≤ tt)
