-- `raster::log::write_logged` meets its contract. The invariant: the map is what the entries so far leave. Assumes nothing.
use mathlib.Core.Path.{refl}
use native.Mathlib.Omega.{arith}
use Rattle.loops.proofs.LoopLaws.{going_none, going_more, going_end}
use Rattle.raster.proofs.log.write_logged.Goals as goal

pub loop-cell-init : goal.loop-cell-init
loop-cell-init c = going_none _ _ _ _

pub loop-cell-preserved : goal.loop-cell-preserved
loop-cell-preserved c = going_more _ _ _ _ _ _ _ c.loop-cell.invariant c.loop-cell-test.true (rw c.index_of-k.ensures refl)
