-- `entry::questions::safe_fits` meets its contract. Assumes nothing.
use Rattle.entry.specs.Questions.{safe_fit}
use mathlib.Core.Path.{refl}
use Rattle.entry.proofs.questions.safe_fits.Goals as goal

pub returns : goal.returns
unfolding safe_fit
returns c = rw c.is_finite.ensures refl
