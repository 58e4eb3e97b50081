-- `events::list::shift_up` meets its contract. The invariant: the slice is what the turns so far leave. Assumes nothing.
use Rattle.loops.proofs.LoopLaws.{Going}
use Rattle.events.proofs.ShiftLaws.{shift_one}
use Rattle.events.proofs.list.shift_up.Given as goal

abbrev pub invariant-loop-i : goal.invariant-loop-i
invariant-loop-i l = Going (shift_one l.low l.n l.d) 0 l.n l.initial.triples l.triples l.i
