-- `links::heap::rise` meets its contract. Assumes nothing.
use native.Mathlib.Omega.{arith}
use Rattle.links.proofs.SiftLaws.{rising_none, rise_stop, rise-on, kept-none}
use Rattle.links.proofs.heap.rise.Goals as goal

pub loop-k-init : goal.loop-k-init
loop-k-init c = (kept-none _ _, rising_none _ _ _ c.requires.ordered)

pub loop-k-preserved : goal.loop-k-preserved
loop-k-preserved c = let l = c.loop-k in let p = c.requires.lent in rise-on _ _ _ _ _ _ _ l.invariant.0 l.invariant.1 _ c.read-f.ensures _ c.before-in-loop-k.ensures c.if-not-before.false c.loop-k-test.true (omega (arith, l.invariant.0.ests_long, l.invariant.1.high, p.in_ests)) (omega (arith, l.invariant.0.nodes-long, l.invariant.1.high, p.in_nodes)) _ _ (c.write.ensures.ests_after, c.write.ensures.nodes_after)
