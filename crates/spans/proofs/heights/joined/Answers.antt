-- `spans::heights::joined` meets its contract. Assumes nothing.
use Rattle.spans.specs.Ends.{joined_of}
use Rattle.spans.proofs.heights.joined.Goals as goal

pub returns : goal.returns
unfolding joined_of
returns c = rw (c.min.ensures, c.max.ensures)
