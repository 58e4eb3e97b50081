-- `entry::questions::depth_fits` meets its contract. Assumes nothing.
use Rattle.entry.specs.Questions.{depth_fit}
use mathlib.Core.Path.{refl}
use Rattle.entry.proofs.questions.depth_fits.Goals as goal

pub returns : goal.returns
unfolding depth_fit
returns c = rw (c.is_finite.ensures, c.is_finite-2.ensures) refl
