-- `entry::questions::ramp_fits` meets its contract. Assumes nothing.
use Rattle.entry.specs.Questions.{ramp_fit}
use mathlib.Core.Path.{refl}
use Rattle.entry.proofs.questions.ramp_fits.Goals as goal

pub returns : goal.returns
unfolding ramp_fit
returns c = rw c.above_zero.ensures refl
