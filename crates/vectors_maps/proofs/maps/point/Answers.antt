-- `vectors_maps::maps::point` meets its contract. Assumes nothing.
use Rattle.vectors_maps.specs.Maps.{point_at}
use Rattle.geom.specs.Vec.{v2}
use Rattle.vectors_maps.proofs.maps.point.Goals as goal

pub returns : goal.returns
unfolding point_at
returns c = λ i. v2 (c.float.ensures i) (c.float-2.ensures i)
