-- `pocket::answers::of_count` meets its contract. Assumes nothing.
use mathlib.Core.Path.{sym, ap}
use Rattle.pocket.specs.Answers.{count_by}
use Rattle.pocket.proofs.answers.of_count.Goals as goal

pub returns-in-Ok : goal.returns-in-Ok
unfolding count_by
returns-in-Ok c = ap count_by (sym c.in-Ok.is)

pub returns-in-Err : goal.returns-in-Err
unfolding count_by
returns-in-Err c = ap count_by (sym c.in-Err.is)
