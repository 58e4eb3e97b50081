-- `spans::heights::big_of` meets its contract. Assumes nothing.
use Rattle.spans.proofs.HeightLaws.{big_last, big_first}
use Rattle.spans.proofs.heights.big_of.Goals as goal

pub returns-then-p-q : goal.returns-then-p-q
returns-then-p-q c = big_last _ _ c.requires.0 c.requires.1 c.if-p-q.true

pub returns : goal.returns
returns c = big_first _ _ c.requires.0 c.requires.1 c.if-p-q.false
