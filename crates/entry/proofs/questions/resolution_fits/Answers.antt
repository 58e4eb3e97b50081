-- `entry::questions::resolution_fits` meets its contract. Assumes nothing.
use borrow.Author.Rules.{rules}
use Rattle.entry.specs.Questions.{fine_for, resolution_fit}
use Rattle.entry.proofs.RangeLaws.{test-by}
use Rattle.entry.proofs.questions.resolution_fits.Goals as goal

pub returns : goal.returns
unfolding resolution_fit
returns c = test-by (fine_for c.args.p.tool_diameter) _ _ _ c.is_none_or.ensures (λ x h. search rules)
