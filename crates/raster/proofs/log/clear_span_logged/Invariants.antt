-- `raster::log::clear_span_logged` meets its contract. The invariant: the map, the log and the count are what the turns so far leave. Assumes nothing.
use Rattle.loops.proofs.LoopLaws.{Going}
use Rattle.raster.specs.Log.{st, clear_cell}
use Rattle.raster.proofs.log.clear_span_logged.Given as goal

abbrev pub invariant-loop-k : goal.invariant-loop-k
invariant-loop-k l = Going clear_cell l.from l.to (st l.initial.map l.initial.log l.count) (st l.map l.log l.n) l.k
