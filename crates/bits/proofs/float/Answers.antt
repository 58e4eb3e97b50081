-- `bits::float` meets its contract. Assumes nothing.
use mathlib.Core.Path.{sym, subst, ◌∙◌}
use mathlib.Core.Bool.{Bool, not}
use Prim.Native.Nat.{◌*◌, ◌%◌, ◌^◌}
use lib.Dec.{T}
use lib.Ieee.{binary64, of_bits, div}
use lib.Ieee.Bits.{nan_bits_above}
use borrow.Author.Tests.{le-ltb, lt-ltb}
use Rattle.bits.proofs.FloatLaws.{nan_read}
use Rattle.bits.proofs.float.Goals as goal

pub float_from_bits-result : goal.float_from_bits-result
float_from_bits-result c = let b = c.args.bits in
    subst (λ (k : Bool). T (not k)) (sym (nan_bits_above binary64 b ∙ le-ltb (2047 * 2 ^ 52) (b % 9223372036854775808) c.if-bits-gt9218868437227405312.false)) tt

pub returns-then-bits-gt9218868437227405312 : goal.returns-then-bits-gt9218868437227405312
unfolding of_bits div
returns-then-bits-gt9218868437227405312 c = let b = c.args.bits in
    nan_read binary64 b (nan_bits_above binary64 b ∙ lt-ltb (2047 * 2 ^ 52) (b % 9223372036854775808) c.if-bits-gt9218868437227405312.true)
