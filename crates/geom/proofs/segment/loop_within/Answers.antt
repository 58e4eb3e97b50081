-- `geom::segment::loop_within` meets its contract. The invariant: no edge before i is within. Assumes nothing.
use mathlib.Core.Path.{sym, ◌∙◌}
use native.Mathlib.Omega.{arith}
use Rattle.loops.proofs.LoopLaws.{going_none, any-on, any_out, any_none}
use Rattle.geom.specs.Segment.{loop_within}
use Rattle.geom.proofs.segment.loop_within.Goals as goal

pub loop-i-init : goal.loop-i-init
loop-i-init c = going_none _ _ _ _

pub returns-then-edge_within : goal.returns-then-edge_within
unfolding loop_within
returns-then-edge_within c = let l = c.loop-i in any_out _ _ _ l.i l.invariant c.loop-i-test.true (sym c.edge_within.ensures ∙ c.if-edge_within.true)

pub loop-i-preserved : goal.loop-i-preserved
loop-i-preserved c = let l = c.loop-i in any-on _ _ _ l.i l.invariant c.loop-i-test.true (sym c.edge_within.ensures ∙ c.if-edge_within.false)

pub returns : goal.returns
unfolding loop_within
returns c = any_none _ _ _ c.loop-i.i c.loop-i.invariant c.loop-i-test.false
