-- `contours::edge::across` meets its contract. Assumes nothing.
use Rattle.std.proofs.Common.{refl}
use Rattle.contours.specs.Edge.{across_of}
use Rattle.contours.proofs.edge.across.Goals as goal

pub returns : goal.returns
unfolding across_of
returns c = refl
