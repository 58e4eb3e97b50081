-- `entry::questions::leave_fits` meets its contract. Assumes nothing.
use Rattle.entry.specs.Questions.{leave_fit}
use mathlib.Core.Path.{refl}
use Rattle.entry.proofs.questions.leave_fits.Goals as goal

pub returns : goal.returns
unfolding leave_fit
returns c = rw c.is_finite.ensures refl
