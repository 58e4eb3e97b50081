-- `planner::outcome::U32FromRefusal::from` meets its contract. Assumes nothing.
use mathlib.Core.Path.{sym, ap, ◌∙◌}
use Rattle.planner.specs.Planner.{refusal_number}
use Rattle.planner.proofs.outcome.U32FromRefusal.from.Goals as goal

pub returns-in-No : goal.returns-in-No
unfolding refusal_number
returns-in-No c = c.number.ensures ∙ ap refusal_number (sym c.in-No.is)

pub returns-in-NoRoom : goal.returns-in-NoRoom
unfolding refusal_number
returns-in-NoRoom c = c.into.ensures ∙ ap refusal_number (sym c.in-NoRoom.is)

pub returns-in-Unentered : goal.returns-in-Unentered
unfolding refusal_number
returns-in-Unentered c = ap refusal_number (sym c.in-Unentered.is)
