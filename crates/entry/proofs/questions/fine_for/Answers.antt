-- `entry::questions::fine_for` meets its contract. Assumes nothing.
use Rattle.entry.specs.Questions.{fine_for}
use mathlib.Core.Path.{refl}
use Rattle.entry.proofs.questions.fine_for.Goals as goal

pub returns : goal.returns
unfolding fine_for
returns c = rw c.above_zero.ensures refl
