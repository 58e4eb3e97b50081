-- `links::heap::sink` meets its contract. Assumes nothing.
use native.Mathlib.Omega.{arith}
use Rattle.links.proofs.SiftLaws.{sinking-none, sink_stop, sink_on, kept-none}
use Rattle.links.proofs.heap.sink.Goals as goal

pub loop-k-init : goal.loop-k-init
loop-k-init c = (kept-none _ _, sinking-none _ _ _ c.requires.e_value c.requires.ordered)

pub returns-then-not-before : goal.returns-then-not-before
returns-then-not-before c = let l = c.loop-k in record { kept = l.invariant.0; sinking = l.invariant.1; stops = sink_stop _ _ _ _ _ _ _ l.invariant.0 l.invariant.1 _ c.child-c.ensures _ c.read-f.ensures _ c.before-in-loop-k.ensures c.if-not-before.true }

pub loop-k-preserved : goal.loop-k-preserved
loop-k-preserved c = let l = c.loop-k in let p = c.requires.lent in sink_on _ _ _ _ _ _ _ l.invariant.0 l.invariant.1 _ c.child-c.ensures _ c.read-f.ensures _ c.before-in-loop-k.ensures c.if-not-before.false (omega (arith, l.invariant.0.ests_long, c.loop-k-test.true, p.in_ests)) (omega (arith, l.invariant.0.nodes-long, c.loop-k-test.true, p.in_nodes)) _ _ (c.write.ensures.ests_after, c.write.ensures.nodes_after)
