-- `pocket::adaptive::of_answer` meets its contract. Assumes nothing.
use Rattle.pocket.proofs.PlanLaws.{accepted_is, refused-is}
use Rattle.pocket.proofs.adaptive.of_answer.Goals as goal

pub returns-in-Ok : goal.returns-in-Ok
returns-in-Ok c = accepted_is _ _ c.in-Ok.is

pub returns-in-Err : goal.returns-in-Err
returns-in-Err c = refused-is _ _ _ _ c.in-Err.is c.into.ensures c.no_report.ensures
