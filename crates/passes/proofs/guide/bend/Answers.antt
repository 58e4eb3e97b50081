-- `passes::guide::bend` meets its contract. The invariant: the points before k are bent, and those from k on are as they were. Assumes nothing.
use native.Mathlib.Omega.{arith}
use Rattle.passes.proofs.GuideLaws.{bending_none, bending_more, bending_out, bending_end, after-long}
use Rattle.passes.proofs.guide.bend.Goals as goal

pub vertex-b-requires : goal.vertex-b-requires
vertex-b-requires c = omega (arith, c.requires)

pub loop-k-init : goal.loop-k-init
loop-k-init c = bending_none _ _ _ _ _ c.vertex-b.ensures

pub vertex-p-requires : goal.vertex-p-requires
vertex-p-requires c = omega (arith, c.loop-k.invariant.long, c.loop-k-test.true)

pub shape_of-guide-then-s-len : goal.shape_of-guide-then-s-len
shape_of-guide-then-s-len c = c.loop-k.invariant.long

pub returns-then-s-len : goal.returns-then-s-len
returns-then-s-len c = record { guide_len_unchanged = c.loop-k.invariant.long; guide_after = bending_out _ _ _ _ _ _ _ _ c.loop-k.invariant c.loop-k-test.true _ c.vertex-p.ensures _ c.along-s.ensures c.if-s-len.true }

pub after-requires : goal.after-requires
after-requires c = omega (arith, c.loop-k.invariant.long, c.loop-k-test.true)

pub put-requires : goal.put-requires
put-requires c = omega (arith, c.loop-k.invariant.long, c.loop-k-test.true)

pub loop-k-preserved : goal.loop-k-preserved
loop-k-preserved c = bending_more _ _ _ _ _ _ _ _ c.loop-k.invariant c.loop-k-test.true _ c.vertex-p.ensures _ c.along-s.ensures c.if-s-len.false _ (after-long c.loop-k.guide c.args.guide.now c.loop-k.k _ c.loop-k.invariant.long c.after.ensures) _ c.bent-q.ensures _ c.put.ensures (omega (arith, c.loop-k.invariant.long, c.loop-k-test.true))

pub shape_of-guide : goal.shape_of-guide
shape_of-guide c = c.loop-k.invariant.long

pub returns : goal.returns
returns c = record { guide_len_unchanged = c.loop-k.invariant.long; guide_after = bending_end _ _ _ _ _ _ _ _ c.loop-k.invariant c.loop-k-test.false }
