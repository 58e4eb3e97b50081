-- `contours::edge::upward` meets its contract. Assumes nothing.
use Rattle.std.proofs.Common.{refl}
use Rattle.contours.specs.Edge.{upward_of}
use Rattle.contours.proofs.edge.upward.Goals as goal

pub returns : goal.returns
unfolding upward_of
returns c = refl
