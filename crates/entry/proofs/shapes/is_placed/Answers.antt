-- `entry::shapes::is_placed` meets its contract. Assumes nothing.
use Rattle.entry.specs.Questions.{placed}
use mathlib.Core.Path.{refl}
use Rattle.entry.proofs.shapes.is_placed.Goals as goal

pub returns : goal.returns
unfolding placed
returns c = rw (c.is_finite.ensures, c.abs.ensures) refl
