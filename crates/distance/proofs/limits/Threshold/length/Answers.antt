-- `distance::limits::Threshold::length` meets its contract. Assumes nothing.
use Rattle.distance.specs.Limits.{scaled_of}
use Rattle.distance.proofs.limits.Threshold.length.Goals as goal

pub returns-in-Some : goal.returns-in-Some
unfolding scaled_of
returns-in-Some c = rw (c.in-Some.is, c.distance_of-d.ensures)

pub returns-in-None : goal.returns-in-None
unfolding scaled_of
returns-in-None c = rw (c.in-None.is, c.distance_of-d.ensures)
