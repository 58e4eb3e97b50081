-- `geom::apart::loop_apart` meets its contract. The invariant: no edge before i comes near. Assumes nothing.
use native.Mathlib.Omega.{arith}
use Rattle.loops.proofs.Cases.{never}
use Rattle.geom.specs.Segment.{loop_within}
use Rattle.geom.proofs.ApartLaws.{apart_none, apart_more, apart-end}
use Rattle.geom.proofs.apart.loop_apart.Goals as goal

pub loop-i-init : goal.loop-i-init
loop-i-init c = (omega arith, apart_none _ _)

pub loop-i-preserved : goal.loop-i-preserved
loop-i-preserved c = (omega arith, apart_more _ _ _ c.loop-i.invariant.1 (c.edge_apart.ensures c.if-not-edge_apart.false))

pub returns : goal.returns
unfolding loop_within
returns c = λ t. apart-end _ _ _ _ c.loop-i.invariant.0 c.loop-i-test.false c.loop-i.invariant.1
