-- `links::heap::push` meets its contract. Assumes nothing.
use Rattle.links.proofs.HoldLaws.{pushed}
use Rattle.links.proofs.heap.push.Goals as goal

pub returns : goal.returns
returns c = pushed _ _ _ _ _ _ _ c.requires.lent c.rise-k.ensures _ _ (c.write.ensures.ests_after, c.write.ensures.nodes_after)
