-- `start::reach::near_byte` meets its contract. Assumes nothing.
use mathlib.Core.Path.{sym, ◌∙◌}
use mathlib.Core.Bool.{true, false}
use Rattle.start.proofs.ReachLaws.{near_none, near-is}
use Rattle.start.proofs.reach.near_byte.Goals as goal

pub returns-then-is_within : goal.returns-then-is_within
returns-then-is_within c = near-is _ _ _ c.if-start-eq1.true true (sym c.if-is_within.true ∙ c.is_within.ensures)

pub returns-else-is_within : goal.returns-else-is_within
returns-else-is_within c = near-is _ _ _ c.if-start-eq1.true false (sym c.if-is_within.false ∙ c.is_within.ensures)

pub returns-else-start-eq1 : goal.returns-else-start-eq1
returns-else-start-eq1 c = near_none _ _ _ c.if-start-eq1.false
