-- `contours::square::nearest` meets its contract. Assumes nothing.
use lib.Ieee.{of_bits, nan_bits}
use Rattle.contours.proofs.SquareLaws.{nearest-is}
use Rattle.contours.proofs.square.nearest.Goals as goal

pub float_from_bits-n0 : goal.float_from_bits-n0
unfolding nan_bits
float_from_bits-n0 c = tt

pub returns : goal.returns
unfolding of_bits
returns c = nearest-is _ _ _ _ _ _ c.nearer-n1.ensures c.nearer-n2.ensures c.nearer-n3.ensures c.nearer-n4.ensures
