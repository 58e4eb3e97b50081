-- `geom::vec2::Vec2::add` meets its contract. Assumes nothing.
use mathlib.Core.Path.{refl}
use Rattle.geom.specs.Vec.{sum}
use Rattle.geom.proofs.vec2.Vec2.add.Goals as goal

pub returns : goal.returns
unfolding sum
returns c = refl
