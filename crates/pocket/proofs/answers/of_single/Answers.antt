-- `pocket::answers::of_single` meets its contract. Assumes nothing.
use mathlib.Core.Path.{sym, ap}
use Rattle.pocket.specs.Answers.{single_by}
use Rattle.pocket.proofs.answers.of_single.Goals as goal

pub returns-in-Ok : goal.returns-in-Ok
unfolding single_by
returns-in-Ok c = ap single_by (sym c.in-Ok.is)

pub returns-in-Err : goal.returns-in-Err
unfolding single_by
returns-in-Err c = ap single_by (sym c.in-Err.is)
