-- `start::stock::end_of` meets its contract. Assumes nothing.
use mathlib.Core.Path.{◌≡◌, ap}
use Prim.Native.Nat.{◌+◌}
use native.Mathlib.Omega.{arith}
use Rattle.loops.proofs.LoopLaws.{going_none, going_more, going_end}
use Rattle.geom.specs.Region.{start_of}
use Rattle.geom.proofs.RegionLaws.{loop-within, turn-loop, turn_size}
use Rattle.start.proofs.stock.end_of.Goals as goal
use Rattle.start.proofs.stock.end_of.Goals.{At-loop-n}

at-is : (c : At-loop-n) → let s = c.args in c.loop-n.at ≡ start_of s.lens.now s.r c.loop-n.n-index
unfolding start_of
at-is c = c.loop-n.invariant.is

pub loop-n-init : goal.loop-n-init
loop-n-init c = going_none _ _ _ _

pub overflow_add-at : goal.overflow_add-at
overflow_add-at c = let e = c.sizes-n-items.ensures in
    let s = c.args in
    let k = c.loop-n.n-index in
    let l = turn-loop s.lens.now c.sizes-n-items.result.now s.r e.count e.each k c.loop-n-test.true in
    omega (arith, at-is (goal.at.overflow_add-at c).At-loop-n, turn_size s.lens.now c.sizes-n-items.result.now s.r e.count e.each k c.loop-n-test.true, c.requires.loops_bound, loop-within s.lens.now s.r k l)

pub loop-n-preserved : goal.loop-n-preserved
loop-n-preserved c = let e = c.sizes-n-items.ensures in
    let s = c.args in
    let k = c.loop-n.n-index in
    let t = c.loop-n-test.true in
    going_more _ _ _ _ _ _ _ c.loop-n.invariant (turn-loop s.lens.now c.sizes-n-items.result.now s.r e.count e.each k t) (ap (λ z. c.loop-n.at + z) (turn_size s.lens.now c.sizes-n-items.result.now s.r e.count e.each k t))

pub returns : goal.returns
unfolding start_of
returns c = going_end _ _ _ _ _ _ c.loop-n.invariant (omega (arith, c.loop-n-test.false, c.sizes-n-items.ensures.count))
