-- `geom::points::put` meets its contract. Assumes nothing.
use mathlib.Core.Path.{refl}
use Rattle.geom.specs.Points.{put_point}
use Rattle.geom.proofs.points.put.Goals as goal

pub returns : goal.returns
unfolding put_point
returns c = refl
