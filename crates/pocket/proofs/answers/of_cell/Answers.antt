-- `pocket::answers::of_cell` meets its contract. Assumes nothing.
use mathlib.Core.Path.{refl, sym, ap}
use Rattle.pocket.specs.Answers.{cell_by}
use Rattle.pocket.proofs.answers.of_cell.Goals as goal

pub returns-in-Some : goal.returns-in-Some
unfolding cell_by
returns-in-Some c = rw (c.in-Ok.is, c.in-Some.is) refl

pub returns-in-None : goal.returns-in-None
unfolding cell_by
returns-in-None c = rw (c.in-Ok.is, c.in-None.is) refl

pub returns-in-Err : goal.returns-in-Err
unfolding cell_by
returns-in-Err c = ap cell_by (sym c.in-Err.is)
