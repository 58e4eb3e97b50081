-- `entry::shapes::all_placed` meets its contract. Assumes nothing.
use mathlib.Core.Path.{sym, ap, ◌∙◌}
use mathlib.Core.Bool.{not, not}
use Rattle.loops.proofs.LoopLaws.{going_none, any-on, any_out, any_none}
use Rattle.entry.specs.Questions.{all_placed}
use Rattle.entry.proofs.shapes.all_placed.Goals as goal

pub loop-x-init : goal.loop-x-init
loop-x-init c = going_none _ _ _ _

pub returns-then-not-is_placed : goal.returns-then-not-is_placed
unfolding all_placed
returns-then-not-is_placed c = ap not (any_out _ _ _ c.loop-x.x-index c.loop-x.invariant c.loop-x-test.true (ap not (sym c.is_placed.ensures) ∙ (ap not c.if-not-is_placed.true)))

pub loop-x-preserved : goal.loop-x-preserved
loop-x-preserved c = any-on _ _ _ c.loop-x.x-index c.loop-x.invariant c.loop-x-test.true (ap not (sym c.is_placed.ensures) ∙ (ap not c.if-not-is_placed.false))

pub returns : goal.returns
unfolding all_placed
returns c = ap not (any_none _ _ _ c.loop-x.x-index c.loop-x.invariant c.loop-x-test.false)
