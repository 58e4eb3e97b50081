-- `passes::guide::round_to` meets its contract. Assumes nothing.
use Rattle.passes.proofs.LayLaws.{round-low, round-high}
use Rattle.passes.proofs.guide.round_to.Goals as goal

pub returns-then-j-m : goal.returns-then-j-m
returns-then-j-m c = round-low _ _ c.if-j-m.true

pub returns : goal.returns
returns c = round-high _ _ c.if-j-m.false
