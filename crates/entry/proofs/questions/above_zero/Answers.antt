-- `entry::questions::above_zero` meets its contract. Assumes nothing.
use Rattle.entry.specs.Questions.{above_zero}
use mathlib.Core.Path.{refl}
use Rattle.entry.proofs.questions.above_zero.Goals as goal

pub returns : goal.returns
unfolding above_zero
returns c = rw c.is_finite.ensures refl
