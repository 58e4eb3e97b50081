-- `links::heap::pop` meets its contract. Assumes nothing.
use mathlib.Core.Path.{◌≡◌, sym, subst}
use Prim.Native.Nat.{◌+◌, ◌-◌}
use native.Mathlib.Omega.{arith}
use Rattle.links.specs.Heap.{entry_at, Ordered}
use Rattle.links.proofs.HoldLaws.{popped}
use Rattle.links.proofs.heap.pop.Goals as goal

pub returns : goal.returns
returns c = popped _ _ _ _ _ _ _ c.slice_known-1.given c.requires.n_nonzero c.requires.lent c.sink-k.ensures _ _ (c.write.ensures.ests_after, c.write.ensures.nodes_after) _ c.read-first.ensures
