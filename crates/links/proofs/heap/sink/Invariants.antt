-- `links::heap::sink` meets its contract. Assumes nothing.
use Prim.Native.Nat.{◌-◌}
use Rattle.links.specs.Heap.{entry_at, SameLong}
use Rattle.links.specs.Sift.{Sinking}
use Rattle.links.proofs.heap.sink.Given as goal

abbrev pub invariant-loop-k : goal.invariant-loop-k
invariant-loop-k l = SameLong l.initial.ests l.initial.nodes l.ests l.nodes × Sinking (entry_at l.initial.ests l.initial.nodes) (entry_at l.ests l.nodes) l.n l.e l.k

abbrev pub decreases-loop-k : goal.decreases-loop-k
decreases-loop-k l = l.n - l.k
