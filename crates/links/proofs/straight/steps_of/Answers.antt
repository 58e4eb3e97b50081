-- `links::straight::steps_of` meets its contract. Assumes nothing.
use Rattle.links.proofs.StraightLaws.{steps_are}
use Rattle.links.proofs.straight.steps_of.Goals as goal

pub returns : goal.returns
returns c = steps_are _ _ _ _ _ _ _ c.distance.ensures c.ceil-n.ensures c.max.ensures c.sat_u64.ensures
