-- `pocket::answers::of_number` meets its contract. Assumes nothing.
use mathlib.Core.Path.{sym, ap}
use Rattle.pocket.specs.Answers.{number_by}
use Rattle.pocket.proofs.answers.of_number.Goals as goal

pub returns-in-Ok : goal.returns-in-Ok
unfolding number_by
returns-in-Ok c = ap number_by (sym c.in-Ok.is)

pub returns-in-Err : goal.returns-in-Err
unfolding number_by
returns-in-Err c = ap number_by (sym c.in-Err.is)
