-- `entry::questions::engagement_fits` meets its contract. Assumes nothing.
use Rattle.entry.specs.Questions.{engagement_fit}
use mathlib.Core.Path.{refl}
use Rattle.entry.proofs.questions.engagement_fits.Goals as goal

pub returns : goal.returns
unfolding engagement_fit
returns c = rw c.is_finite.ensures refl
