-- `entry::questions::feeds_fit` meets its contract. Assumes nothing.
use Rattle.entry.specs.Questions.{feeds_fit}
use mathlib.Core.Path.{refl}
use Rattle.entry.proofs.questions.feeds_fit.Goals as goal

pub returns : goal.returns
unfolding feeds_fit
returns c = rw (c.above_zero.ensures, c.above_zero-2.ensures, c.above_zero-3.ensures) refl
