-- `numbers::root::sqrt` meets its contract. Assumes nothing.
use lib.Ieee.{of_bits, nan_bits, div}
use Rattle.numbers.proofs.NarrowLaws.{pos_of}
use Rattle.numbers.proofs.RootLaws.{root-top, root_zero, root_none}
use Rattle.numbers.proofs.root.sqrt.Goals as goal

pub float_from_bits-top : goal.float_from_bits-top
unfolding nan_bits
float_from_bits-top c = tt

pub root_up-requires : goal.root_up-requires
unfolding of_bits
root_up-requires c = pos_of c.args.x c.if-x.true c.if-x-top.true

pub returns-else-x-top : goal.returns-else-x-top
unfolding of_bits
returns-else-x-top c = root-top c.args.x c.if-x.true c.if-x-top.false

pub returns-then-x-2 : goal.returns-then-x-2
unfolding of_bits
returns-then-x-2 c = root_zero c.args.x c.if-x-2.true

pub returns-else-x-2 : goal.returns-else-x-2
unfolding of_bits div
returns-else-x-2 c = root_none c.args.x c.if-x.false c.if-x-2.false
