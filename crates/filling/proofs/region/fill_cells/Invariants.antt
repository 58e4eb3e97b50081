-- `filling::region::fill_cells` meets its contract. The invariant: the map is what the cells so far leave. Assumes nothing.
use Rattle.loops.proofs.LoopLaws.{Going}
use Rattle.filling.specs.Fill.{fill_cell}
use Rattle.filling.proofs.region.fill_cells.Given as goal

abbrev pub invariant-loop-i : goal.invariant-loop-i
invariant-loop-i l = Going (fill_cell l.g l.vs l.lens l.region l.j) 0 l.nx l.initial.map l.map l.i
