-- `numbers::root::guess` is safe: no pattern that it reads or makes is a NaN's. Nothing is said of its answer. Assumes nothing.
use Rattle.std.proofs.Common.{arith}
use Rattle.numbers.proofs.OrderLaws.{no_nan_below}
use Rattle.numbers.proofs.RootLaws.{no_nan_bits}
use Rattle.numbers.proofs.root.guess.Goals as goal

pub float_from_bits-v : goal.float_from_bits-v
float_from_bits-v c = no_nan_bits _ (omega (arith, c.requires))
