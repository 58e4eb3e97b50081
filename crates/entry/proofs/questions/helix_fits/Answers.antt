-- `entry::questions::helix_fits` meets its contract. Assumes nothing.
use Rattle.entry.specs.Questions.{above_zero, helix_fit}
use Rattle.entry.proofs.RangeLaws.{test-by}
use Rattle.entry.proofs.questions.helix_fits.Goals as goal

pub returns : goal.returns
unfolding helix_fit
returns c = test-by above_zero _ _ _ c.is_none_or.ensures (λ x h. h)
