-- `numbers::order::abs` meets its contract. Assumes nothing.
use Rattle.std.proofs.Common.{T, sym, subst}
use lib.Ieee.{of_bits}
use Rattle.numbers.proofs.OrderLaws.{abs_zero, abs_below, abs_above}
use Rattle.numbers.proofs.order.abs.Goals as goal

pub returns-then-x : goal.returns-then-x
unfolding of_bits
returns-then-x c = abs_zero c.args.x (subst T (sym c.well_formed.0.1) tt) c.if-x.true

pub returns-then-x-2 : goal.returns-then-x-2
unfolding of_bits
returns-then-x-2 c = abs_below c.args.x c.if-x-2.true

pub returns-else-x-2 : goal.returns-else-x-2
unfolding of_bits
returns-else-x-2 c = abs_above c.args.x c.if-x.false c.if-x-2.false
