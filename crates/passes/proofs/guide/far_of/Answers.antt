-- `passes::guide::far_of` meets its contract. Assumes nothing.
use Rattle.passes.proofs.GuideLaws.{far-first, far_second, far_third}
use Rattle.passes.proofs.guide.far_of.Goals as goal

pub returns-then-k-eq0 : goal.returns-then-k-eq0
returns-then-k-eq0 c = far-first _ _ _ _ c.if-k-eq0.true

pub returns-then-k-eq1 : goal.returns-then-k-eq1
returns-then-k-eq1 c = far_second _ _ _ _ c.if-k-eq0.false c.if-k-eq1.true

pub returns : goal.returns
returns c = far_third _ _ _ _ c.if-k-eq0.false c.if-k-eq1.false
