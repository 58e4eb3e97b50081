-- `rounds::next::least` meets its contract. Assumes nothing.
use lib.Ieee.{of_bits, nan_bits}
use Rattle.rounds.proofs.NextLaws.{closest_none, closest_more, closest_end}
use Rattle.rounds.proofs.next.least.Goals as goal

pub float_from_bits-so : goal.float_from_bits-so
unfolding nan_bits
float_from_bits-so c = tt

pub loop-k-init : goal.loop-k-init
unfolding of_bits
loop-k-init c = closest_none _ _ _ _

pub loop-k-preserved : goal.loop-k-preserved
loop-k-preserved c = closest_more _ _ _ _ _ _ _ _ _ c.loop-k.invariant c.loop-k-test.true c.vertex.ensures c.distance.ensures c.min-so.ensures

pub returns : goal.returns
returns c = closest_end _ _ _ _ _ _ c.loop-k.invariant c.loop-k-test.false
