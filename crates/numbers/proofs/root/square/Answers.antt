-- `numbers::root::square` meets its contract. Assumes nothing.
use Rattle.std.proofs.Common.{ℕ, ◌*◌, ◌/◌, ◌%◌, ◌^◌, ◌<◌, sym, mod-lt, arith, pow_pos}
use Rattle.numbers.proofs.RootLaws.{halves, product_lt}
use Rattle.numbers.proofs.root.square.Goals as goal

module _ (s : ℕ) (S : s < 2 ^ 55) where
  abbrev a : ℕ
  a = s / 134217728

  abbrev b : ℕ
  b = s % 134217728

  a_lt : a < 2 ^ 28
  a_lt = omega arith

  b_lt : b < 2 ^ 27
  b_lt = mod-lt s (pow_pos 27)

  ab : a * b < 2 ^ 55
  ab = product_lt 28 27 a b a_lt b_lt

  bb : b * b < 2 ^ 54
  bb = product_lt 27 27 b b b_lt b_lt

  aa : a * a < 2 ^ 56
  aa = product_lt 28 28 a a a_lt a_lt

pub returns : goal.returns
returns c = (sym (halves c.args.s), mod-lt _ (pow_pos 54), omega (arith, aa c.args.s c.requires, ab c.args.s c.requires, bb c.args.s c.requires))
