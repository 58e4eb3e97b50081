-- `planner::outcome::answer_of` meets its contract. Assumes nothing.
use Rattle.planner.proofs.AnswerLaws.{answer_stopped, answer-unentered, answer_accepted, listed-rows}
use Rattle.planner.specs.Planner.{unentered}
use Rattle.planner.proofs.outcome.answer_of.Goals as goal

pub returns-then-t-starting : goal.returns-then-t-starting
unfolding unentered
returns-then-t-starting c = answer-unentered _ _ _ _ _ _ _ _ _ _ c.in-Ok.is c.if-t-starting.true

pub report_of-requires : goal.report_of-requires
report_of-requires c = record { sides = c.requires.sides; g_in_bounds = c.requires.s_in_bounds; rows_in_bounds = listed-rows _ _ _ _ _ c.in-Ok.is c.requires.listed_end }

pub returns-in-Err : goal.returns-in-Err
returns-in-Err c = answer_stopped _ _ _ _ _ _ _ _ _ c.in-Err.is

pub returns-else-t-starting : goal.returns-else-t-starting
unfolding unentered
returns-else-t-starting c = answer_accepted _ _ _ _ _ _ _ _ _ _ c.in-Ok.is c.if-t-starting.false _ c.report_of.ensures
