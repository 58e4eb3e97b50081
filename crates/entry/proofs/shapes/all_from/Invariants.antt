-- `entry::shapes::all_from` meets its contract. Assumes nothing.
use mathlib.Core.Bool.{false}
use lib.ListN.{length}
use Rattle.loops.specs.Loop.{or_at}
use Rattle.loops.proofs.LoopLaws.{Going}
use Rattle.entry.specs.Questions.{outside}
use Rattle.entry.proofs.shapes.all_from.Given as goal

abbrev pub invariant-loop-x : goal.invariant-loop-x
invariant-loop-x l = Going (or_at (outside l.a l.e l.l)) 0 (length l.l) false false l.x-index
