-- `raster::log::write_logged` meets its contract. The invariant: the map is what the entries so far leave. Assumes nothing.
use lib.ListN.{length}
use Rattle.loops.proofs.LoopLaws.{Going}
use Rattle.raster.specs.Log.{written}
use Rattle.raster.proofs.log.write_logged.Given as goal

abbrev pub invariant-loop-cell : goal.invariant-loop-cell
invariant-loop-cell l = Going (written l.log l.byte) 0 (length l.log) l.initial.map l.map l.cell-index
