-- `entry::shapes::all_placed` meets its contract. Assumes nothing.
use mathlib.Core.Bool.{false}
use lib.ListN.{length}
use Rattle.loops.specs.Loop.{or_at}
use Rattle.loops.proofs.LoopLaws.{Going}
use Rattle.entry.specs.Questions.{astray}
use Rattle.entry.proofs.shapes.all_placed.Given as goal

abbrev pub invariant-loop-x : goal.invariant-loop-x
invariant-loop-x l = Going (or_at (astray l.vs)) 0 (length l.vs) false false l.x-index
