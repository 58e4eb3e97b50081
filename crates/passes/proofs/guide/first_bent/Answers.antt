-- `passes::guide::first_bent` meets its contract. Assumes nothing.
use Rattle.passes.proofs.SimulateLaws.{half-some}
use Rattle.passes.proofs.GuideLaws.{first-stays, first_bends}
use Rattle.passes.proofs.guide.first_bent.Goals as goal

pub returns-then-len : goal.returns-then-len
returns-then-len c = first-stays _ _ _ _ (half-some _ c.requires) _ c.vertex-p.ensures c.if-len.true

pub returns : goal.returns
returns c = first_bends _ _ _ _ (half-some _ c.requires) _ c.vertex-p.ensures c.if-len.false _ _ c.after.ensures c.bent.ensures
