-- `bits::single_pattern` meets its contract. Assumes nothing.
use native.Mathlib.Omega.{arith}
use mathlib.Core.Path.{sym, ap, subst}
use lib.Dec.{T}
use lib.Ieee.{binary32, to_bits}
use lib.Ieee.Bits.{to_bits-lt}
use Rattle.bits.proofs.FloatLaws.{no_nan, the_nan}
use Rattle.bits.proofs.single_pattern.Goals as goal

pub overflow_cast-result : goal.overflow_cast-result
overflow_cast-result c = omega (arith, to_bits-lt binary32 c.args.x (subst T (sym c.well_formed.0.1) tt))

pub returns-else-x : goal.returns-else-x
unfolding to_bits
returns-else-x c = ap (to_bits binary32) (the_nan c.args.x c.if-x.false)
