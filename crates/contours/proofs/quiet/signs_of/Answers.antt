-- `contours::quiet::signs_of` meets its contract. The invariant: each flag is of the values so far. Assumes nothing.
use Rattle.std.proofs.Common.{◌≡◌, ◌∙◌, ap, ℕ, ◌+◌, ◌-◌, ◌≤◌, ◌<◌, ◌||◌, List, length, get_or, take, drop, arith, length-drop}
use lib.Ieee.{Float, nan, lt, le}
use lib.Seq.{get_or-take, get_or-drop, length-take-le}
use Rattle.loops.specs.Loop.{any}
use Rattle.loops.proofs.LoopLaws.{going_none, going_more, going_end}
use Rattle.contours.specs.Quiet.{signs_of}
use Rattle.contours.proofs.quiet.signs_of.Goals as goal

part-long : (f : List Float) (from to : ℕ) → from ≤ to → to ≤ length f → length (take (to - from) (drop from f)) ≡ to - from
part-long f from to a b = length-take-le (to - from) (drop from f) (simp length-drop (omega arith))

part_at : (f : List Float) (from to k : ℕ) → k < to - from → get_or (take (to - from) (drop from f)) k nan ≡ get_or f (from + k) nan
part_at f from to k h = get_or-take (to - from) (drop from f) k nan h ∙ get_or-drop from f k nan

pub loop-v-init : goal.loop-v-init
loop-v-init c = let z : c.args.from + 0 ≡ c.args.from = omega arith in rw z (going_none _ _ _ _, going_none _ _ _ _)

pub loop-v-preserved : goal.loop-v-preserved
loop-v-preserved c = let v = c.loop-v.invariant in
    let a = c.args in
    let t : c.loop-v.v-index < a.to - a.from = omega (arith, c.loop-v-test.true, part-long a.f.now a.from a.to c.requires.0 c.requires.1) in
    let i = part_at a.f.now a.from a.to c.loop-v.v-index t in
    let z : a.from + (c.loop-v.v-index + 1) ≡ a.from + c.loop-v.v-index + 1 = omega arith in
    rw z (
      going_more _ _ _ _ _ _ _ v.0 (omega arith) (ap (λ (x : Float). c.loop-v.above || lt a.level x) i),
      going_more _ _ _ _ _ _ _ v.1 (omega arith) (ap (λ (x : Float). c.loop-v.below || le x a.level) i),
    )

pub returns : goal.returns
unfolding signs_of any
returns c = let v = c.loop-v.invariant in
    let a = c.args in
    let d : a.to ≤ a.from + c.loop-v.v-index = omega (arith, c.loop-v-test.false, part-long a.f.now a.from a.to c.requires.0 c.requires.1) in
    rw (going_end _ _ _ _ _ _ v.0 d, going_end _ _ _ _ _ _ v.1 d)
