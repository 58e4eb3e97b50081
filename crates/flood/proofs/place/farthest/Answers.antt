-- `flood::place::farthest` meets its contract. Assumes nothing.
use Rattle.loops.proofs.LoopLaws.{going_none, going_more, going_end}
use Rattle.flood.specs.Place.{farthest_of}
use Rattle.flood.proofs.place.farthest.Goals as goal

pub loop-k-init : goal.loop-k-init
loop-k-init c = going_none _ _ _ _

pub loop-k-preserved : goal.loop-k-preserved
loop-k-preserved c = going_more _ _ _ _ _ _ _ c.loop-k.invariant c.loop-k-test.true c.farther-best.ensures

pub returns : goal.returns
unfolding farthest_of
returns c = going_end _ _ _ _ _ _ c.loop-k.invariant c.loop-k-test.false
