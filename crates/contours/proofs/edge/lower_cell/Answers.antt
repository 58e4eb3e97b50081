-- `contours::edge::lower_cell` meets its contract. Assumes nothing.
use Rattle.std.proofs.Common.{refl}
use Rattle.contours.specs.Edge.{lower_of}
use Rattle.contours.proofs.edge.lower_cell.Goals as goal

pub returns : goal.returns
unfolding lower_of
returns c = refl
