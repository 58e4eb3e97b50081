-- `pocket::answers::of_rim` meets its contract. Assumes nothing.
use mathlib.Core.Path.{sym, ap}
use Rattle.pocket.specs.Answers.{rim_by}
use Rattle.pocket.proofs.answers.of_rim.Goals as goal

pub returns-in-Ok : goal.returns-in-Ok
unfolding rim_by
returns-in-Ok c = ap rim_by (sym c.in-Ok.is)

pub returns-in-Err : goal.returns-in-Err
unfolding rim_by
returns-in-Err c = ap rim_by (sym c.in-Err.is)
