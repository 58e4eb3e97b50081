-- `numbers::bound::search` meets its contract. Assumes nothing.
use Rattle.loops.specs.Loop.{on, turn}
use Rattle.loops.proofs.LoopLaws.{Going}
use Rattle.numbers.specs.Bound.{look_at}
use Rattle.std.proofs.Common.{None}
use Rattle.numbers.proofs.bound.search.Given as goal

abbrev pub invariant-loop-i : goal.invariant-loop-i
invariant-loop-i l = Going (turn (look_at l.r l.k)) 0 8 (on None) (on None) l.i
