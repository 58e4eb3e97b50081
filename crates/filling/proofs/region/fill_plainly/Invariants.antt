-- `filling::region::fill_plainly` meets its contract. The invariant: the map is what the rows so far leave. Assumes nothing.
use Rattle.loops.proofs.LoopLaws.{Going}
use Rattle.filling.specs.Fill.{fill_row}
use Rattle.filling.proofs.region.fill_plainly.Given as goal

abbrev pub invariant-loop-j : goal.invariant-loop-j
invariant-loop-j l = Going (fill_row l.g l.vs l.lens l.region) 0 l.g.ny l.initial.map l.map l.j
