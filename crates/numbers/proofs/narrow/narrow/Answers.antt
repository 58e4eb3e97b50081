-- `numbers::narrow::narrow` meets its contract, arm by arm. Assumes nothing.
use Rattle.std.proofs.Common.{T, sym, subst}
use lib.Ieee.{binary64, fits, div, of_bits}
use Rattle.numbers.proofs.WholeLaws.{turned}
use Rattle.numbers.proofs.NarrowLaws.{narrow_neg, narrow_nan, narrow_zero}
use Rattle.numbers.proofs.narrow.narrow.Goals as goal
use Rattle.numbers.proofs.narrow.narrow.Goals.{Start}

held : (c : Start) → T (fits binary64 c.args.x)
held c = subst T (sym c.well_formed.0.1) tt

pub narrow_high-requires : goal.narrow_high-requires
unfolding of_bits
narrow_high-requires c = c.if-x.true

pub narrow_high-requires-then-x-2 : goal.narrow_high-requires-then-x-2
unfolding of_bits
narrow_high-requires-then-x-2 c = c.if-x-2.true

pub narrow_low-requires : goal.narrow_low-requires
unfolding of_bits
narrow_low-requires c = record { x_value = c.if-x-3.true; x_value_2 = c.if-x.false }

pub narrow_low-requires-then-x-4 : goal.narrow_low-requires-then-x-4
unfolding of_bits
narrow_low-requires-then-x-4 c = record { x_value = turned c.args.x c.if-x-4.true; x_value_2 = c.if-x-2.false }

pub float_to_float-result : goal.float_to_float-result
unfolding of_bits
float_to_float-result c = (narrow_zero c.args.x (held (goal.at.float_to_float-result c).Start) c.if-x-3.false c.if-x-4.false c.if-x-5.true).1

pub returns-then-x-2 : goal.returns-then-x-2
returns-then-x-2 c = narrow_neg c.args.x c.narrow_high-then-x-2.result c.narrow_high-then-x-2.ensures

pub returns-then-x-4 : goal.returns-then-x-4
returns-then-x-4 c = narrow_neg c.args.x c.narrow_low-then-x-4.result c.narrow_low-then-x-4.ensures

pub returns-then-x-5 : goal.returns-then-x-5
unfolding of_bits
returns-then-x-5 c = (narrow_zero c.args.x (held (goal.at.returns-then-x-5 c).Start) c.if-x-3.false c.if-x-4.false c.if-x-5.true).0

pub returns-else-x-5 : goal.returns-else-x-5
unfolding of_bits div
returns-else-x-5 c = narrow_nan c.args.x c.if-x-5.false
