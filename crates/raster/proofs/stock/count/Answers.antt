-- `raster::stock::count` meets its contract. The invariant: what is counted is what the cells so far hold. Assumes nothing.
use mathlib.Core.Path.{refl, ◌∙◌}
use Prim.Native.Nat.{◌<◌}
use native.Mathlib.Omega.{arith}
use lib.ListN.{length}
use Rattle.loops.specs.Cells.{ones}
use Rattle.raster.proofs.StockLaws.{count-one, count_none, count_most, count-all}
use Rattle.raster.proofs.stock.count.Goals as goal
use Rattle.raster.proofs.stock.count.Goals.{else-cell-eq1, then-cell-eq1}

pub loop-cell-init : goal.loop-cell-init
unfolding ones
loop-cell-init c = (omega arith, refl)

pub overflow_add-standing : goal.overflow_add-standing
overflow_add-standing c = omega (arith, count_most c.args.map.now c.loop-cell.cell-index c.loop-cell.standing c.loop-cell.invariant.1)

pub loop-cell-preserved : goal.loop-cell-preserved
loop-cell-preserved c = let more : c.loop-cell.cell-index < length c.args.map.now = c.loop-cell-test.true in (
  omega arith,
  elim c.if-cell-eq1.branch [ then-cell-eq1 w ↦ w.standing-is ∙ count-one _ _ _ more c.loop-cell.invariant.1 w.if-cell-eq1.true | else-cell-eq1 w ↦ w.standing-is ∙ count_none _ _ _ more c.loop-cell.invariant.1 w.if-cell-eq1.false ],
)

pub returns : goal.returns
returns c = count-all _ _ _ c.loop-cell-test.false c.loop-cell.invariant.1
