-- `filling::rows::set_shown` meets its contract. The invariant: the map is what the turns so far leave, and the bytes before i are 0. Assumes nothing.
use Rattle.loops.proofs.LoopLaws.{Going}
use Rattle.filling.specs.Columns.{shown_at}
use Rattle.filling.proofs.ColumnLaws.{Wiped}
use Rattle.filling.proofs.rows.set_shown.Given as goal

abbrev pub invariant-loop-i : goal.invariant-loop-i
invariant-loop-i l = Going (shown_at l.base l.initial.row) 0 l.n l.initial.map l.map l.i × Wiped l.initial.row l.row l.i
