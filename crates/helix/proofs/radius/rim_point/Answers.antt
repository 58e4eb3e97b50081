-- `helix::radius::rim_point` meets its contract. Assumes nothing.
use Rattle.helix.proofs.RadiusLaws.{rim-is}
use Rattle.helix.proofs.radius.rim_point.Goals as goal

pub returns : goal.returns
returns c = rim-is _ _ _ _ _ _ _ _ c.float_of.ensures c.float_of-2.ensures c.from_angle-v.ensures c.scale.ensures c.add.ensures
