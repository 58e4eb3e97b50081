-- `pocket::adaptive::pocket_adaptive_clear` meets its contract. Assumes nothing.
use Rattle.pocket.proofs.PlanLaws.{plan_told, plan_answered}
use Rattle.pocket.proofs.adaptive.pocket_adaptive_clear.Goals as goal

pub returns : goal.returns
returns c = let a = c.args in
    let l = plan_told _ _ c.params_of-q.ensures _ a.vs.now a.lens.now a.regions.now _ _ _ c.adaptive_clear-a.ensures.result_after _ c.of_answer.ensures in
    let t = plan_answered _ _ c.params_of-q.ensures _ a.vs.now a.lens.now a.regions.now _ _ _ c.adaptive_clear-a.ensures.result_after c.adaptive_clear-a.ensures.answer_told in record { result_after = l; answer_told = t }
