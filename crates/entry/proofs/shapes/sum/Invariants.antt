-- `entry::shapes::sum` meets its contract. Assumes nothing.
use Prim.Native.Nat.{◌+◌, ◌*◌, ◌≤◌}
use lib.ListN.{length, get_or}
use Rattle.loops.proofs.LoopLaws.{Going}
use Rattle.entry.proofs.shapes.sum.Given as goal

abbrev pub invariant-loop-x : goal.invariant-loop-x
invariant-loop-x l = Going (λ i s. s + get_or l.l i 0) 0 (length l.l) 0 l.n l.x-index × (l.n ≤ l.x-index * 4294967295)
