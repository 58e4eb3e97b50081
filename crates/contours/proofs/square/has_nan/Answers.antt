-- `contours::square::has_nan` meets its contract. Assumes nothing.
use Rattle.contours.specs.Square.{has_nan}
use Rattle.contours.proofs.SquareLaws.{any_differs}
use Rattle.contours.proofs.square.has_nan.Goals as goal

pub returns : goal.returns
unfolding has_nan
returns c = any_differs _ _ _ _
