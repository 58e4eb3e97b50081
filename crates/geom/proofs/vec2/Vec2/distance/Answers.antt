-- `geom::vec2::Vec2::distance` meets its contract. Assumes nothing.
use mathlib.Core.Path.{ap, ◌∙◌}
use Rattle.numbers.specs.Root.{root_of}
use Rattle.geom.specs.Vec.{distance_of}
use Rattle.geom.proofs.vec2.Vec2.distance.Goals as goal

pub returns : goal.returns
unfolding distance_of
returns c = c.sqrt.ensures ∙ ap root_of c.square.ensures
