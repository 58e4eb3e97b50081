-- `smoothing::smooth::next` meets its contract. Assumes nothing.
use borrow.Author.Tests.{eq-eqb, ne_eqb}
use Rattle.smoothing.specs.Smooth.{next_of}
use Rattle.smoothing.proofs.smooth.next.Goals as goal

pub returns-then-k-n : goal.returns-then-k-n
unfolding next_of
returns-then-k-n c = rw (eq-eqb _ _ c.if-k-n.true)

pub returns : goal.returns
unfolding next_of
returns c = rw (ne_eqb _ _ c.if-k-n.false) c.vertex.ensures
