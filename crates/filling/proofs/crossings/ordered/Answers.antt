-- `filling::crossings::ordered` meets its contract. Assumes nothing.
use borrow.Author.Tests.{lt-ltb, le-ltb}
use Rattle.filling.specs.Columns.{ordered_of}
use Rattle.filling.proofs.crossings.ordered.Goals as goal

pub returns-then-k-l : goal.returns-then-k-l
unfolding ordered_of
returns-then-k-l c = rw (lt-ltb c.args.k c.args.l c.if-k-l.true)

pub returns : goal.returns
unfolding ordered_of
returns c = rw (le-ltb c.args.k c.args.l c.if-k-l.false)
