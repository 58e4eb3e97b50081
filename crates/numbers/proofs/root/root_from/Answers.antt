-- `numbers::root::root_from` meets its contract: the pattern is the exponent's half and the digits of the root. Assumes nothing.
use Rattle.std.proofs.Common.{arith}
use Rattle.numbers.proofs.RootLaws.{at_most, result, root-few, no_nan_bits}
use Rattle.numbers.proofs.root.root_from.Goals as goal

pub float_from_bits-result : goal.float_from_bits-result
float_from_bits-result c = no_nan_bits _ (root-few c.args.m c.args.e c.near_root-q.result c.requires c.near_root-q.ensures)

pub returns : goal.returns
returns c = record { is = λ x p y. (result x c.args.m c.args.e c.near_root-q.result p y c.near_root-q.ensures).is }
