-- `numbers::circle::sin_series` meets its contract: the coefficients compute to those of the definition. Assumes nothing.
use Rattle.std.proofs.Common.{refl}
use lib.Ieee.{of_bits, of_int, neg, div}
use Rattle.numbers.specs.Circle.{sin_series}
use Rattle.numbers.proofs.circle.sin_series.Goals as goal

pub returns : goal.returns
unfolding sin_series of_bits of_int neg div
returns c = refl
