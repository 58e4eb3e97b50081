-- `spans::runs::has_stock` meets its contract. The invariant: none of the cells so far is stock. Assumes nothing.
use native.Mathlib.Omega.{arith}
use borrow.Author.Tests.{eq-eqb, ne_eqb}
use Rattle.loops.proofs.LoopLaws.{going_none, any-on, any_none, any_out}
use Rattle.spans.proofs.runs.has_stock.Goals as goal

pub loop-k-init : goal.loop-k-init
loop-k-init c = going_none _ _ _ _

pub returns-then-map-k-eq1 : goal.returns-then-map-k-eq1
returns-then-map-k-eq1 c = any_out _ _ _ _ c.loop-k.invariant c.loop-k-test.true (eq-eqb _ _ c.if-map-k-eq1.true)

pub loop-k-preserved : goal.loop-k-preserved
loop-k-preserved c = any-on _ _ _ _ c.loop-k.invariant c.loop-k-test.true (ne_eqb _ _ c.if-map-k-eq1.false)

pub returns : goal.returns
returns c = any_none _ _ _ _ c.loop-k.invariant c.loop-k-test.false
