-- `passes::worth::worth` meets its contract. Assumes nothing.
use Rattle.passes.proofs.WorthLaws.{worth-few, worth_by}
use Rattle.passes.proofs.worth.worth.Goals as goal

pub returns-then-removed-least : goal.returns-then-removed-least
returns-then-removed-least c = worth-few _ _ _ _ _ _ c.cut_length.ensures _ c.wanted-least.ensures c.if-removed-least.true

pub returns : goal.returns
returns c = worth_by _ _ _ _ _ _ c.cut_length.ensures _ c.wanted-least.ensures c.if-removed-least.false
