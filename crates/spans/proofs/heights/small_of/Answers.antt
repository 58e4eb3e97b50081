-- `spans::heights::small_of` meets its contract. Assumes nothing.
use Rattle.spans.proofs.HeightLaws.{small-first, small-last, small-none}
use Rattle.spans.proofs.heights.small_of.Goals as goal

pub returns-then-a : goal.returns-then-a
returns-then-a c = small-first _ _ c.requires.0 c.requires.1 c.if-a.true

pub returns-then-b : goal.returns-then-b
returns-then-b c = small-last _ _ c.requires.0 c.requires.1 c.if-b.true

pub returns : goal.returns
returns c = small-none _ _ c.requires.0 c.requires.1
