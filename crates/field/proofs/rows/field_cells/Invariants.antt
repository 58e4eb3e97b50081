-- `field::rows::field_cells` meets its contract. The invariant: the cells so far are worked out. Assumes nothing.
use Rattle.loops.proofs.LoopLaws.{Going}
use Rattle.field.specs.Field.{sensed, field_cell}
use Rattle.field.proofs.rows.field_cells.Given as goal

abbrev pub invariant-loop-i : goal.invariant-loop-i
invariant-loop-i l = Going (field_cell l.g.setup l.g.all l.map l.allowed l.stock l.near l.j) l.first l.end (sensed l.initial.f l.sampled) (sensed l.f l.n) l.i
