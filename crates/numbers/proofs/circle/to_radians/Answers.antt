-- `numbers::circle::to_radians` meets its contract. Assumes nothing.
use Rattle.std.proofs.Common.{refl}
use Rattle.numbers.specs.Circle.{radians_of}
use Rattle.numbers.proofs.circle.to_radians.Goals as goal

pub returns : goal.returns
unfolding radians_of
returns c = refl
