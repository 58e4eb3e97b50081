-- `bits::pattern` meets its contract. Assumes nothing.
use mathlib.Core.Path.{ap}
use lib.Ieee.{binary64, to_bits}
use Rattle.bits.proofs.FloatLaws.{no_nan, the_nan}
use Rattle.bits.proofs.pattern.Goals as goal

pub returns-else-x : goal.returns-else-x
unfolding to_bits
returns-else-x c = ap (to_bits binary64) (the_nan c.args.x c.if-x.false)
