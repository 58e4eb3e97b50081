-- `numbers::order::rank` meets its contract: a NaN apart, the pattern's two halves. Assumes nothing.
use Rattle.std.proofs.Common.{◌^◌, Bool, not, T, sym, ap, ◌∙◌, subst, arith, le-ltb, lt-ltb}
use lib.Ieee.{binary64, to_bits}
use lib.Ieee.Bits.{to_bits-lt}
use lib.Ieee.Compare.{differs_from_itself}
use Rattle.numbers.specs.Order.{rank_of}
use Rattle.numbers.proofs.WholeLaws.{yes, differs}
use Rattle.numbers.proofs.order.rank.Goals as goal

pub returns-then-x : goal.returns-then-x
unfolding rank_of to_bits
returns-then-x c = ap rank_of (sym (differs_from_itself c.args.x (yes c.if-x.true)))

pub float_to_bits-b : goal.float_to_bits-b
float_to_bits-b c = subst (λ (b : Bool). T (not b)) (sym c.if-x.false ∙ differs c.args.x) tt

pub overflow_sub-result : goal.overflow_sub-result
overflow_sub-result c = omega (arith, to_bits-lt binary64 c.args.x (subst T (sym c.well_formed.0.1) tt))

pub returns-then-b-lt9223372036854775808 : goal.returns-then-b-lt9223372036854775808
unfolding rank_of
returns-then-b-lt9223372036854775808 c = rw (lt-ltb (to_bits binary64 c.args.x) (2 ^ 63) c.if-b-lt9223372036854775808.true)

pub returns-else-b-lt9223372036854775808 : goal.returns-else-b-lt9223372036854775808
unfolding rank_of
returns-else-b-lt9223372036854775808 c = rw (le-ltb (to_bits binary64 c.args.x) (2 ^ 63) c.if-b-lt9223372036854775808.false)
