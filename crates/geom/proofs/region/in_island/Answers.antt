-- `geom::region::in_island` meets its contract. Assumes nothing.
use mathlib.Core.Path.{sym, ◌∙◌}
use Prim.Native.Nat.{◌+◌}
use native.Mathlib.Omega.{arith}
use Rattle.loops.proofs.LoopLaws.{going_none, any-on, any_out, any_none}
use Rattle.geom.specs.Region.{in_island}
use Rattle.geom.proofs.RegionLaws.{start_first, inside_is, turn-loop, turn_size, turn-held, turn_next, island-in, island_is}
use Rattle.geom.proofs.region.in_island.Goals as goal

pub overflow_add-at : goal.overflow_add-at
overflow_add-at c = let e = c.sizes-loops.ensures in
    let s = c.args in
    omega (arith, turn-held s.lens.now c.sizes-loops.result.now s.g e.count e.each 0 (omega (arith, e.count, c.requires.some)) _ c.requires _ (start_first s.lens.now s.g))

pub loop-n-init : goal.loop-n-init
loop-n-init c = let e = c.sizes-loops.ensures in
    let s = c.args in
    (going_none _ _ _ _, turn_next s.lens.now c.sizes-loops.result.now s.g e.count e.each 0 (omega (arith, e.count, c.requires.some)) _ (start_first s.lens.now s.g))

pub point_in_loop-requires : goal.point_in_loop-requires
point_in_loop-requires c =
    let e = c.sizes-loops.ensures in
    let s = c.args in
    let k = c.loop-n.n-index + 1 in
    let K = island-in c.sizes-loops.result.now c.loop-n.n-index c.loop-n-test.true in
    let is = island_is c.sizes-loops.result.now c.loop-n.n-index c.loop-n-test.true in
    omega (arith, turn-held s.lens.now c.sizes-loops.result.now s.g e.count e.each k K _ c.requires _ c.loop-n.invariant.1, is)

pub returns-then-point_in_loop : goal.returns-then-point_in_loop
unfolding in_island
returns-then-point_in_loop c =
    let e = c.sizes-loops.ensures in
    let s = c.args in
    let k = c.loop-n.n-index + 1 in
    let K = island-in c.sizes-loops.result.now c.loop-n.n-index c.loop-n-test.true in
    let is = island_is c.sizes-loops.result.now c.loop-n.n-index c.loop-n-test.true in
    let answer = inside_is _ _ _ _ k _ _ _ c.loop-n.invariant.1 (is ∙ turn_size s.lens.now c.sizes-loops.result.now s.g e.count e.each k K) c.point_in_loop.ensures in
    any_out _ _ _ k c.loop-n.invariant.0 (turn-loop s.lens.now c.sizes-loops.result.now s.g e.count e.each k K) (sym answer ∙ c.if-point_in_loop.true)

pub overflow_add-at-in-loop-n : goal.overflow_add-at-in-loop-n
overflow_add-at-in-loop-n c =
    let e = c.sizes-loops.ensures in
    let s = c.args in
    let k = c.loop-n.n-index + 1 in
    let K = island-in c.sizes-loops.result.now c.loop-n.n-index c.loop-n-test.true in
    let is = island_is c.sizes-loops.result.now c.loop-n.n-index c.loop-n-test.true in
    omega (arith, turn-held s.lens.now c.sizes-loops.result.now s.g e.count e.each k K _ c.requires _ c.loop-n.invariant.1, is)

pub loop-n-preserved : goal.loop-n-preserved
loop-n-preserved c =
    let e = c.sizes-loops.ensures in
    let s = c.args in
    let k = c.loop-n.n-index + 1 in
    let K = island-in c.sizes-loops.result.now c.loop-n.n-index c.loop-n-test.true in
    let is = island_is c.sizes-loops.result.now c.loop-n.n-index c.loop-n-test.true in
    let answer = inside_is _ _ _ _ k _ _ _ c.loop-n.invariant.1 (is ∙ turn_size s.lens.now c.sizes-loops.result.now s.g e.count e.each k K) c.point_in_loop.ensures in (
      any-on _ _ _ k c.loop-n.invariant.0 (turn-loop s.lens.now c.sizes-loops.result.now s.g e.count e.each k K) (sym answer ∙ c.if-point_in_loop.false),
      omega (arith, turn_next s.lens.now c.sizes-loops.result.now s.g e.count e.each k K _ c.loop-n.invariant.1, is),
    )

pub returns : goal.returns
unfolding in_island
returns c = any_none _ _ _ (c.loop-n.n-index + 1) c.loop-n.invariant.0 (omega (arith, c.loop-n-test.false, c.sizes-loops.ensures.count))
