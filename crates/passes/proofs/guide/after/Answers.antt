-- `passes::guide::after` meets its contract. Assumes nothing.
use native.Mathlib.Omega.{arith}
use Rattle.passes.proofs.GuideLaws.{after_next, after_last}
use Rattle.passes.proofs.guide.after.Goals as goal

pub returns-then-k-guide : goal.returns-then-k-guide
returns-then-k-guide c = after_next _ _ _ _ c.if-k-guide.true c.vertex.ensures

pub returns : goal.returns
returns c = after_last _ _ _ _ (omega (arith, c.requires)) c.if-k-guide.false c.vertex-2.ensures
