-- `entry::shapes::all_from` meets its contract. Assumes nothing.
use mathlib.Core.Path.{ap}
use mathlib.Core.Bool.{not}
use Rattle.loops.proofs.LoopLaws.{going_none, any-on, any_out, any_none}
use Rattle.entry.specs.Questions.{all_from}
use Rattle.entry.proofs.shapes.all_from.Goals as goal

pub loop-x-init : goal.loop-x-init
loop-x-init c = going_none _ _ _ _

pub returns-then-x-a : goal.returns-then-x-a
unfolding all_from
returns-then-x-a c = ap not (any_out _ _ _ c.loop-x.x-index c.loop-x.invariant c.loop-x-test.true c.if-x-a.true)

pub loop-x-preserved : goal.loop-x-preserved
loop-x-preserved c = any-on _ _ _ c.loop-x.x-index c.loop-x.invariant c.loop-x-test.true c.if-x-a.false

pub returns : goal.returns
unfolding all_from
returns c = ap not (any_none _ _ _ c.loop-x.x-index c.loop-x.invariant c.loop-x-test.false)
