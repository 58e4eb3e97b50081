-- `entry::questions::one_or_more` meets its contract. Assumes nothing.
use Rattle.entry.specs.Questions.{one_or_more}
use mathlib.Core.Path.{refl}
use Rattle.entry.proofs.questions.one_or_more.Goals as goal

pub returns : goal.returns
unfolding one_or_more
returns c = rw c.is_finite.ensures refl
