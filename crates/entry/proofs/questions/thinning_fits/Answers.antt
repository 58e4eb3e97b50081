-- `entry::questions::thinning_fits` meets its contract. Assumes nothing.
use Rattle.entry.specs.Questions.{one_or_more, thinning_fit}
use Rattle.entry.proofs.RangeLaws.{test-by}
use Rattle.entry.proofs.questions.thinning_fits.Goals as goal

pub returns : goal.returns
unfolding thinning_fit
returns c = test-by one_or_more _ _ _ c.is_none_or.ensures (λ x h. h)
