-- `passes::worth::wanted` meets its contract. Assumes nothing.
use Rattle.passes.proofs.WorthLaws.{wanted-is, four_least, four_over}
use Rattle.passes.proofs.worth.wanted.Goals as goal

pub returns-then-n-lt4 : goal.returns-then-n-lt4
returns-then-n-lt4 c = wanted-is _ _ _ c.sat_u64-n.ensures _ (four_least _ c.if-n-lt4.true)

pub returns : goal.returns
returns c = wanted-is _ _ _ c.sat_u64-n.ensures _ (four_over _ c.if-n-lt4.false)
