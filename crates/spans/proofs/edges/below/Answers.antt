-- `spans::edges::below` meets its contract. Assumes nothing.
use Rattle.spans.specs.Ends.{below_of}
use Rattle.spans.proofs.edges.below.Goals as goal

pub returns : goal.returns
unfolding below_of
returns c = rw c.float_of.ensures
