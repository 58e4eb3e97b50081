-- `entry::questions::ranges_fit` meets its contract. Assumes nothing.
use Rattle.entry.specs.Questions.{ranges_fit}
use mathlib.Core.Path.{refl}
use Rattle.entry.proofs.questions.ranges_fit.Goals as goal

pub returns : goal.returns
unfolding ranges_fit
returns c = rw (c.is_short.ensures, c.cell_of.ensures) refl
