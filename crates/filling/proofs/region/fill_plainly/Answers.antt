-- `filling::region::fill_plainly` meets its contract. The invariant: the map is what the rows so far leave. Assumes nothing.
use mathlib.Core.Path.{◌≡◌, ap, ◌∙◌}
use native.Mathlib.Omega.{arith}
use lib.ListN.{length}
use Rattle.loops.proofs.LoopLaws.{going_none, going_more, going_end}
use Rattle.filling.specs.Fill.{fill_region}
use Rattle.filling.proofs.FillLaws.{rows_long}
use Rattle.filling.proofs.region.fill_plainly.Goals as goal
use Rattle.filling.proofs.region.fill_plainly.Goals.{At-loop-j}

pub loop-j-init : goal.loop-j-init
loop-j-init c = going_none _ _ _ _

pub loop-j-preserved : goal.loop-j-preserved
loop-j-preserved c = going_more _ _ _ _ _ _ _ c.loop-j.invariant c.loop-j-test.true c.fill_cells.ensures

pub returns : goal.returns
unfolding fill_region
returns c = going_end _ _ _ _ _ _ c.loop-j.invariant c.loop-j-test.false
