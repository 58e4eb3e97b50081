-- `contours::square::joined` meets its contract. Assumes nothing.
use Rattle.std.proofs.Common.{refl}
use Rattle.contours.specs.Square.{joined_of}
use Rattle.contours.proofs.square.joined.Goals as goal

pub returns : goal.returns
unfolding joined_of
returns c = refl
