-- `raster::clear::clear` meets its contract. The invariant: the cells and the count are what the turns so far leave. Assumes nothing.
use mathlib.Core.Path.{◌∙◌}
use native.Mathlib.Omega.{arith}
use Rattle.loops.proofs.LoopLaws.{going_none, going_more, going_end}
use Rattle.raster.specs.Stock.{cl}
use Rattle.raster.proofs.StockLaws.{Left, going_left, fair_left, fair_none, cl_eq, drop-taken, drop_passed}
use Rattle.raster.proofs.clear.clear.Goals as goal
use Rattle.raster.proofs.clear.clear.Goals.{then-cells-k-eq1, else-cells-k-eq1}
use Rattle.raster.proofs.clear.clear.Goals.{At-loop-k}

-- what clearing keeps, at the loop's head
left : (c : At-loop-k) → Left (cl c.args.cells.now 0) (cl c.loop-k.cells c.loop-k.removed)
left c = going_left _ _ _ _ _ c.loop-k.invariant

pub loop-k-init : goal.loop-k-init
loop-k-init c = going_none _ _ _ _

pub overflow_add-removed : goal.overflow_add-removed
overflow_add-removed c = omega (arith, (left (goal.at.overflow_add-removed c).At-loop-k).long, (fair_left _ _ (fair_none c.args.cells.now) (left (goal.at.overflow_add-removed c).At-loop-k)).most)

pub loop-k-preserved : goal.loop-k-preserved
loop-k-preserved c = going_more _ _ _ _ _ _ _ c.loop-k.invariant c.loop-k-test.true
    (elim c.if-cells-k-eq1.branch [ then-cells-k-eq1 w ↦ cl_eq w.cells-is w.removed-is ∙ drop-taken _ _ w.if-cells-k-eq1.true | else-cells-k-eq1 w ↦ cl_eq w.cells-is w.removed-is ∙ drop_passed _ _ w.if-cells-k-eq1.false ])

pub returns : goal.returns
returns c = going_end _ _ _ _ _ _ c.loop-k.invariant c.loop-k-test.false
