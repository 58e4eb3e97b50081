-- `spans::edges::beyond` meets its contract. Assumes nothing.
use Rattle.spans.specs.Ends.{beyond_of}
use Rattle.spans.proofs.edges.beyond.Goals as goal

pub returns : goal.returns
unfolding beyond_of
returns c = rw c.float_of.ensures
