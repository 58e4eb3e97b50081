-- `entry::questions::diameter_fits` meets its contract. Assumes nothing.
use Rattle.entry.specs.Questions.{diameter_fit}
use mathlib.Core.Path.{refl}
use Rattle.entry.proofs.questions.diameter_fits.Goals as goal

pub returns : goal.returns
unfolding diameter_fit
returns c = rw c.above_zero.ensures refl
