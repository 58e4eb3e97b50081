-- `geom::region::loop_bounds` meets its contract. Assumes nothing.
use mathlib.Core.Path.{◌∙◌}
use lib.Ieee.{of_bits, nan_bits, neg}
use Rattle.loops.proofs.LoopLaws.{going_none, going_more, going_end}
use Rattle.geom.specs.Region.{loop_bounds}
use Rattle.geom.proofs.region.loop_bounds.Goals as goal

pub float_from_bits-top : goal.float_from_bits-top
unfolding nan_bits
float_from_bits-top c = tt

pub loop-i-init : goal.loop-i-init
loop-i-init c = going_none _ _ _ _

pub loop-i-preserved : goal.loop-i-preserved
loop-i-preserved c = going_more _ _ _ _ _ _ _ c.loop-i.invariant c.loop-i-test.true (c.widen-c.ensures ∙ rw c.vertex.ensures)

pub returns : goal.returns
unfolding loop_bounds of_bits neg
returns c = going_end _ _ _ _ _ _ c.loop-i.invariant c.loop-i-test.false
