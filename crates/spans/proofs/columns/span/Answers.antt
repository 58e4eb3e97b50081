-- `spans::columns::span` meets its contract. Assumes nothing.
use Rattle.spans.specs.Ends.{span_of}
use Rattle.spans.proofs.columns.span.Goals as goal

pub returns : goal.returns
unfolding span_of
returns c = rw (← c.place.ensures, ← c.place-2.ensures) c.cols_from.ensures
