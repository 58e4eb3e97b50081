-- `numbers::order::is_finite` meets its contract. Assumes nothing.
use lib.Ieee.{of_bits, nan_bits, neg}
use Rattle.numbers.proofs.OrderLaws.{finite_is}
use Rattle.numbers.proofs.order.is_finite.Goals as goal

pub float_from_bits-top : goal.float_from_bits-top
unfolding nan_bits
float_from_bits-top c = tt

pub returns : goal.returns
unfolding of_bits neg
returns c = finite_is c.args.x
