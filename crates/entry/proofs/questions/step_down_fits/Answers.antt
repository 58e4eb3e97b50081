-- `entry::questions::step_down_fits` meets its contract. Assumes nothing.
use Rattle.entry.specs.Questions.{step_down_fit}
use mathlib.Core.Path.{refl}
use Rattle.entry.proofs.questions.step_down_fits.Goals as goal

pub returns : goal.returns
unfolding step_down_fit
returns c = rw c.above_zero.ensures refl
