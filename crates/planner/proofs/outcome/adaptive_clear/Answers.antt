-- `planner::outcome::adaptive_clear` meets its contract. Assumes nothing.
use mathlib.Core.Path.{sym, ◌∙◌}
use Rattle.entry.proofs.JudgedLaws.{judged_fit}
use Rattle.planner.proofs.FitLaws.{outcome-refused, outcome_planned, outcome-told}
use Rattle.planner.proofs.outcome.adaptive_clear.Goals as goal

pub plan_fit-requires : goal.plan_fit-requires
plan_fit-requires c = judged_fit _ _ _ _ _ _ _ (sym c.judge.ensures ∙ c.in-Ok.is)

pub returns-in-Err : goal.returns-in-Err
returns-in-Err c =
    let r = outcome-told _ _ _ _ (outcome-refused _ _ _ _ _ _ _ c.judge.ensures _ c.in-Err.is) in
    record { result_after = r.0; answer_told = r.1 }

pub returns-in-Ok : goal.returns-in-Ok
returns-in-Ok c =
    let r = outcome-told _ _ _ _ (c.plan_fit.ensures ∙ outcome_planned _ _ _ _ _ _ _ c.judge.ensures _ c.in-Ok.is) in
    record { result_after = r.0; answer_told = r.1 }
