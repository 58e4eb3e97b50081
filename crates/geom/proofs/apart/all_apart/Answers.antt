-- `geom::apart::all_apart` meets its contract. Assumes nothing.
use native.Mathlib.Omega.{arith}
use Rattle.loops.proofs.Cases.{never}
use Rattle.geom.specs.Segment.{any_within}
use Rattle.geom.proofs.RegionLaws.{start_first, turn_size, turn-held, turn_next}
use Rattle.geom.proofs.ApartLaws.{apart_none, apart_more, apart-end, loop-apart}
use Rattle.geom.proofs.apart.all_apart.Goals as goal

pub loop-n-init : goal.loop-n-init
loop-n-init c = let s = c.args in (omega arith, apart_none _ _, start_first s.lens.now s.g)

pub loop_apart-requires : goal.loop_apart-requires
loop_apart-requires c = let e = c.sizes-loops.ensures in
    record { n_in_bounds = turn-held c.args.lens.now c.sizes-loops.result.now c.args.g e.count e.each _ c.loop-n-test.true _ c.requires.held _ c.loop-n.invariant.2; rooted = c.requires.rooted }

pub overflow_add-at : goal.overflow_add-at
overflow_add-at c = let e = c.sizes-loops.ensures in
    omega (arith, turn-held c.args.lens.now c.sizes-loops.result.now c.args.g e.count e.each _ c.loop-n-test.true _ c.requires.held _ c.loop-n.invariant.2)

pub loop-n-preserved : goal.loop-n-preserved
loop-n-preserved c = let e = c.sizes-loops.ensures in
    let l = c.loop-n in
    let t = c.loop-n-test.true in (
      omega (arith, t, e.count),
      apart_more _ _ l.n-index l.invariant.1 (loop-apart _ _ _ _ _ l.n-index _ _ l.invariant.2 (turn_size c.args.lens.now c.sizes-loops.result.now c.args.g e.count e.each _ t) (c.loop_apart.ensures c.if-not-loop_apart.false)),
      turn_next c.args.lens.now c.sizes-loops.result.now c.args.g e.count e.each _ t _ l.invariant.2,
    )

pub returns : goal.returns
unfolding any_within
returns c = λ t. apart-end _ _ _ _ c.loop-n.invariant.0 (omega (arith, c.loop-n-test.false, c.sizes-loops.ensures.count)) c.loop-n.invariant.1
