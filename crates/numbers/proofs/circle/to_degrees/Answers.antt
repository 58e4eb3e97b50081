-- `numbers::circle::to_degrees` meets its contract. Assumes nothing.
use Rattle.std.proofs.Common.{refl}
use Rattle.numbers.specs.Circle.{degrees_of}
use Rattle.numbers.proofs.circle.to_degrees.Goals as goal

pub returns : goal.returns
unfolding degrees_of
returns c = refl
