-- `pocket::answers::done_by` meets its contract. Assumes nothing.
use mathlib.Core.Path.{sym, ap}
use Rattle.pocket.specs.Answers.{done_by}
use Rattle.pocket.proofs.answers.done_by.Goals as goal

pub returns-in-Ok : goal.returns-in-Ok
unfolding done_by
returns-in-Ok c = ap done_by (sym c.in-Ok.is)

pub returns-in-Err : goal.returns-in-Err
unfolding done_by
returns-in-Err c = ap done_by (sym c.in-Err.is)
