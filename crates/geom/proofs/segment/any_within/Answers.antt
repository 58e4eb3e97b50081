-- `geom::segment::any_within` meets its contract. Assumes nothing.
use mathlib.Core.Path.{sym, ◌∙◌}
use native.Mathlib.Omega.{arith}
use Rattle.loops.proofs.LoopLaws.{going_none, any-on, any_out, any_none}
use Rattle.geom.specs.Segment.{any_within}
use Rattle.geom.proofs.RegionLaws.{start_first, turn-loop, turn_size, turn-held, turn_next}
use Rattle.geom.proofs.SegmentLaws.{within-is}
use Rattle.geom.proofs.segment.any_within.Goals as goal

pub loop-n-init : goal.loop-n-init
loop-n-init c = let s = c.args in (going_none _ _ _ _, start_first s.lens.now s.g)

pub loop_within-requires : goal.loop_within-requires
loop_within-requires c = let e = c.sizes-n-items.ensures in
    turn-held c.args.lens.now c.sizes-n-items.result.now c.args.g e.count e.each _ c.loop-n-test.true _ c.requires _ c.loop-n.invariant.1

pub returns-then-loop_within : goal.returns-then-loop_within
unfolding any_within
returns-then-loop_within c = let e = c.sizes-n-items.ensures in
    let l = c.loop-n in
    let t = c.loop-n-test.true in
    let answer = within-is _ _ _ _ _ l.n-index _ _ _ l.invariant.1 (turn_size c.args.lens.now c.sizes-n-items.result.now c.args.g e.count e.each _ t) c.loop_within.ensures in
    any_out _ _ _ l.n-index l.invariant.0 (turn-loop c.args.lens.now c.sizes-n-items.result.now c.args.g e.count e.each _ t) (sym answer ∙ c.if-loop_within.true)

pub overflow_add-at : goal.overflow_add-at
overflow_add-at c = let e = c.sizes-n-items.ensures in
    omega (arith, turn-held c.args.lens.now c.sizes-n-items.result.now c.args.g e.count e.each _ c.loop-n-test.true _ c.requires _ c.loop-n.invariant.1)

pub loop-n-preserved : goal.loop-n-preserved
loop-n-preserved c = let e = c.sizes-n-items.ensures in
    let l = c.loop-n in
    let t = c.loop-n-test.true in
    let answer = within-is _ _ _ _ _ l.n-index _ _ _ l.invariant.1 (turn_size c.args.lens.now c.sizes-n-items.result.now c.args.g e.count e.each _ t) c.loop_within.ensures in (
      any-on _ _ _ l.n-index l.invariant.0 (turn-loop c.args.lens.now c.sizes-n-items.result.now c.args.g e.count e.each _ t) (sym answer ∙ c.if-loop_within.false),
      turn_next c.args.lens.now c.sizes-n-items.result.now c.args.g e.count e.each _ t _ l.invariant.1,
    )

pub returns : goal.returns
unfolding any_within
returns c = any_none _ _ _ c.loop-n.n-index c.loop-n.invariant.0 (omega (arith, c.loop-n-test.false, c.sizes-n-items.ensures.count))
