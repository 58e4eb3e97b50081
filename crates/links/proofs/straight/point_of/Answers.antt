-- `links::straight::point_of` meets its contract. Assumes nothing.
use Rattle.links.proofs.StraightLaws.{point-is}
use Rattle.links.proofs.straight.point_of.Goals as goal

pub returns : goal.returns
returns c = point-is _ _ _ _ _ _ _ c.float_of.ensures c.float_of-2.ensures c.lerp.ensures
