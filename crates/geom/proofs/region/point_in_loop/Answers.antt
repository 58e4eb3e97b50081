-- `geom::region::point_in_loop` meets its contract. The invariant: the answer is what the edges so far leave, and b is the vertex before vertex i. Assumes nothing.
use mathlib.Core.Path.{◌∙◌}
use Rattle.loops.proofs.LoopLaws.{going_none, going_more, going_end}
use Rattle.geom.specs.Region.{point_in_loop}
use Rattle.geom.proofs.RegionLaws.{before-first, before-next, none_inside}
use Rattle.geom.proofs.region.point_in_loop.Goals as goal

pub returns-then-n-eq0 : goal.returns-then-n-eq0
returns-then-n-eq0 c = none_inside _ _ _ _ c.if-n-eq0.true

pub loop-i-init : goal.loop-i-init
loop-i-init c = (going_none _ _ _ _, c.vertex-b.ensures ∙ before-first _ _ _ c.if-n-eq0.false)

pub loop-i-preserved : goal.loop-i-preserved
loop-i-preserved c = let l = c.loop-i in
    (going_more _ _ _ _ _ _ _ l.invariant.0 c.loop-i-test.true (c.turn-inside.ensures ∙ rw (c.vertex-a.ensures, l.invariant.1)), c.vertex-a.ensures ∙ before-next _ _ _ _)

pub returns : goal.returns
unfolding point_in_loop
returns c = going_end _ _ _ _ _ _ c.loop-i.invariant.0 c.loop-i-test.false
