-- `passes::start::nearest` meets its contract. Assumes nothing.
use native.Mathlib.Omega.{arith}
use Rattle.passes.proofs.SimulateLaws.{half-some}
use Rattle.passes.proofs.StartLaws.{near_first, near-turn, near-end}
use Rattle.passes.proofs.start.nearest.Goals as goal

pub vertex-requires : goal.vertex-requires
vertex-requires c = omega (arith, c.requires)

pub loop-k-init : goal.loop-k-init
loop-k-init c = near_first _ _ _ (half-some _ c.requires) _ _ c.vertex.ensures c.distance-d.ensures

pub loop-k-preserved : goal.loop-k-preserved
loop-k-preserved c = near-turn _ _ _ _ c.loop-k-test.true _ _ _ _ c.vertex-in-loop-k.ensures c.distance-far.ensures c.nearer-best.ensures c.loop-k.invariant

pub returns : goal.returns
returns c = near-end _ _ _ _ _ c.loop-k.invariant c.loop-k-test.false
