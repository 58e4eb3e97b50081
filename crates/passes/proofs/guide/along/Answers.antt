-- `passes::guide::along` meets its contract. Assumes nothing.
use Rattle.passes.proofs.GuideLaws.{along_more, along-none}
use Rattle.passes.proofs.guide.along.Goals as goal

pub returns-then-k-gt0 : goal.returns-then-k-gt0
returns-then-k-gt0 c = along_more _ _ _ _ c.if-k-gt0.true _ c.distance.ensures

pub returns : goal.returns
returns c = along-none _ _ _ _ c.if-k-gt0.false
