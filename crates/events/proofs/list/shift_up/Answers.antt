-- `events::list::shift_up` meets its contract. The invariant: the slice is what the turns so far leave. Assumes nothing.
use mathlib.Core.Path.{◌≡◌, refl, ap, ◌∙◌}
use native.Mathlib.Omega.{arith}
use lib.ListN.{length}
use Rattle.loops.proofs.LoopLaws.{going_none, going_more, going_end}
use Rattle.events.proofs.ShiftLaws.{shift_long, shift_is}
use Rattle.events.proofs.list.shift_up.Goals as goal
use Rattle.events.proofs.list.shift_up.Goals.{At-loop-i}

pub loop-i-init : goal.loop-i-init
loop-i-init c = going_none _ _ _ _

pub loop-i-preserved : goal.loop-i-preserved
loop-i-preserved c = going_more _ _ _ _ _ _ _ c.loop-i.invariant c.loop-i-test.true refl

pub returns : goal.returns
returns c = going_end _ _ _ _ _ _ c.loop-i.invariant c.loop-i-test.false ∙ shift_is _ _ _ _ c.requires
