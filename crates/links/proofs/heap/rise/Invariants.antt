-- `links::heap::rise` meets its contract. Assumes nothing.
use Rattle.links.specs.Heap.{entry_at, SameLong}
use Rattle.links.specs.Sift.{Rising}
use Rattle.links.proofs.heap.rise.Given as goal

abbrev pub invariant-loop-k : goal.invariant-loop-k
invariant-loop-k l = SameLong l.initial.ests l.initial.nodes l.ests l.nodes × Rising (entry_at l.initial.ests l.initial.nodes) (entry_at l.ests l.nodes) l.n l.e l.k

abbrev pub decreases-loop-k : goal.decreases-loop-k
decreases-loop-k l = l.k
