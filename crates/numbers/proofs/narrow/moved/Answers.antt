-- `numbers::narrow::moved` meets its contract. Assumes nothing.
use Rattle.std.proofs.Common.{arith}
use lib.Count.{leading_le}
use Rattle.numbers.proofs.PartLaws.{z_low, z_high, shifted}
use Rattle.numbers.proofs.narrow.moved.Goals as goal

pub overflow_sub-result : goal.overflow_sub-result
overflow_sub-result c = z_low c.args.q c.args.j c.requires.q_nonzero c.requires.q_bound

pub returns : goal.returns
returns c = shifted c.args.q c.args.j c.requires.q_nonzero c.requires.q_bound
