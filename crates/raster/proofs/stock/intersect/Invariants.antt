-- `raster::stock::intersect` meets its contract. The invariant: the map is what the cells so far leave. Assumes nothing.
use lib.ListN.{length}
use Rattle.loops.proofs.LoopLaws.{Going}
use Rattle.raster.specs.Stock.{keep_cell}
use Rattle.raster.proofs.stock.intersect.Given as goal

abbrev pub invariant-loop-k : goal.invariant-loop-k
invariant-loop-k l = Going (keep_cell l.other) 0 (length l.initial.map) l.initial.map l.map l.k
