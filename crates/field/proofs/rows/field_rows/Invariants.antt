-- `field::rows::field_rows` meets its contract. Assumes nothing.
use Rattle.loops.proofs.LoopLaws.{Going}
use Rattle.field.specs.Field.{sensed}
use Rattle.field.specs.Bands.{window_row}
use Rattle.field.proofs.rows.field_rows.Given as goal

abbrev pub invariant-loop-j : goal.invariant-loop-j
invariant-loop-j l = Going (window_row l.g.setup l.g.all l.map l.allowed l.stock l.near l.w) l.first l.end (sensed l.initial.f 0) (sensed l.f l.n) l.j
