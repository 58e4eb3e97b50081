-- `contours::edge::is_upward` meets its contract. Assumes nothing.
use Rattle.std.proofs.Common.{refl}
use Rattle.contours.specs.Edge.{is_upward}
use Rattle.contours.proofs.edge.is_upward.Goals as goal

pub returns : goal.returns
unfolding is_upward
returns c = refl
