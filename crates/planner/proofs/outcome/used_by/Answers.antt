-- `planner::outcome::used_by` meets its contract. Assumes nothing.
use Rattle.planner.proofs.AnswerLaws.{used-none, used_stopped, used_finished}
use mathlib.Core.Path.{refl}
use Rattle.planner.proofs.outcome.used_by.Goals as goal

pub returns-in-Err : goal.returns-in-Err
returns-in-Err c = used-none _ _ _ _ _ c.in-Err.is c.nothing.ensures

pub returns-in-Err-e : goal.returns-in-Err-e
returns-in-Err-e c = used_stopped _ _ _ _ _ c.in-Ok.is _ c.in-Err-e.is c.nothing-in-Err-e.ensures

pub returns-in-Ok-e : goal.returns-in-Ok-e
returns-in-Ok-e c = used_finished _ _ _ _ _ c.in-Ok.is _ _ c.in-Ok-e.is refl
