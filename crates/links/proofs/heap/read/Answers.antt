-- `links::heap::read` meets its contract. Assumes nothing.
use mathlib.Core.Path.{ap}
use lib.ListN.{get_or}
use lib.Ieee.{nan}
use Rattle.links.specs.Heap.{entry_at}
use Rattle.links.specs.Search.{entry}
use Rattle.links.proofs.heap.read.Goals as goal

pub returns : goal.returns
unfolding entry_at
returns c = ap (entry (get_or c.args.ests.now c.args.i nan)) c.node_in.ensures
