-- `distance::limits::Threshold::is_ordered` meets its contract. Assumes nothing.
use lib.Ieee.{nan_bits, of_bits}
use Rattle.distance.proofs.LimitLaws.{ordered_scaled, ordered_plain}
use Rattle.distance.proofs.limits.Threshold.is_ordered.Goals as goal

pub float_from_bits-top : goal.float_from_bits-top
unfolding nan_bits
float_from_bits-top c = tt

pub returns-in-Some : goal.returns-in-Some
unfolding of_bits
returns-in-Some c = ordered_scaled c.args.self _ c.in-Some.is
