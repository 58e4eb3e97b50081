-- `numbers::bound::separates` meets its contract. Assumes nothing.
use Rattle.std.proofs.Common.{arith}
use Rattle.numbers.specs.Bound.{separated}
use Rattle.numbers.proofs.RootLaws.{no_nan_bits}
use Rattle.numbers.proofs.bound.separates.Goals as goal

pub float_from_bits-k : goal.float_from_bits-k
float_from_bits-k c = no_nan_bits _ (omega arith)

pub float_from_bits-k-2 : goal.float_from_bits-k-2
float_from_bits-k-2 c = no_nan_bits _ (omega arith)

pub returns : goal.returns
unfolding separated
returns c = rw (← c.sqrt-lo.ensures, ← c.sqrt-hi.ensures)
