-- `raster::clear::clear` meets its contract. The invariant: the cells and the count are what the turns so far leave. Assumes nothing.
use lib.ListN.{length}
use Rattle.loops.proofs.LoopLaws.{Going}
use Rattle.raster.specs.Stock.{cl, drop_cell}
use Rattle.raster.proofs.clear.clear.Given as goal

abbrev pub invariant-loop-k : goal.invariant-loop-k
invariant-loop-k l = Going drop_cell 0 (length l.initial.cells) (cl l.initial.cells 0) (cl l.cells l.removed) l.k
