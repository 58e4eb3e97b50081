-- `passes::guide::bent` meets its contract. Assumes nothing.
use Rattle.passes.proofs.GuideLaws.{bent_is}
use Rattle.passes.proofs.guide.bent.Goals as goal

pub returns : goal.returns
returns c = bent_is _ _ _ _ _ _ _ _ _ _ _ _ _ _ c.sub.ensures c.normalized-t.ensures c.cos-c.ensures c.perp.ensures c.scale.ensures c.scale-left.ensures c.scale-2.ensures c.add.ensures
