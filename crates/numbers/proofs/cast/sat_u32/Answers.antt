-- `numbers::cast::sat_u32` meets its contract. Assumes nothing.
use Rattle.std.proofs.Common.{arith}
use lib.Ieee.{of_bits}
use lib.Ieee.Casts.{to_unsigned-lt}
use Rattle.numbers.proofs.CastLaws.{over, over_minus_one, below_one}
use Rattle.numbers.proofs.cast.sat_u32.Goals as goal

pub cut-requires : goal.cut-requires
unfolding of_bits
cut-requires c = record { x_value = c.if-x.true; pos_value = c.if-x-2.true }

pub overflow_cast-result : goal.overflow_cast-result
overflow_cast-result c = omega (arith, c.cut.ensures, to_unsigned-lt 32 c.args.x)

pub returns-else-x-2 : goal.returns-else-x-2
unfolding of_bits
returns-else-x-2 c = over 32 c.args.x (over_minus_one c.args.x c.if-x.true) c.if-x-2.false

pub returns-else-x : goal.returns-else-x
unfolding of_bits
returns-else-x c = below_one c.args.x c.if-x.false
