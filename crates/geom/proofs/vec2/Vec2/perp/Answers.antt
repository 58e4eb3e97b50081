-- `geom::vec2::Vec2::perp` meets its contract. Assumes nothing.
use mathlib.Core.Path.{refl}
use Rattle.geom.specs.Vec.{perp_of}
use Rattle.geom.proofs.vec2.Vec2.perp.Goals as goal

pub returns : goal.returns
unfolding perp_of
returns c = refl
