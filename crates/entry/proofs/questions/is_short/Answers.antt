-- `entry::questions::is_short` meets its contract. Assumes nothing.
use borrow.Author.Rules.{rules}
use Rattle.entry.specs.Questions.{at_most1000}
use Rattle.entry.proofs.RangeLaws.{test-by}
use Rattle.entry.proofs.questions.is_short.Goals as goal

pub returns : goal.returns
unfolding at_most1000
returns c = test-by at_most1000 _ _ _ c.is_none_or.ensures (λ x h. search rules)
