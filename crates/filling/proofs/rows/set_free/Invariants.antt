-- `filling::rows::set_free` meets its contract. The invariant: the map is what the turns so far leave. Assumes nothing.
use Rattle.loops.proofs.LoopLaws.{Going}
use Rattle.filling.specs.Columns.{free_at}
use Rattle.filling.proofs.rows.set_free.Given as goal

abbrev pub invariant-loop-i : goal.invariant-loop-i
invariant-loop-i l = Going (free_at l.base l.cover) l.a l.b l.initial.map l.map l.i
