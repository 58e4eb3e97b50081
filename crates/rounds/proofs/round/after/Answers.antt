-- `rounds::round::after` meets its contract. Assumes nothing.
use mathlib.Core.Path.{refl}
use Rattle.rounds.specs.Round.{after_cut}
use Rattle.rounds.proofs.round.after.Goals as goal

pub returns-in-Nothing : goal.returns-in-Nothing
unfolding after_cut
returns-in-Nothing c = rw c.in-Nothing.is refl

pub returns-in-Kept : goal.returns-in-Kept
unfolding after_cut
returns-in-Kept c = rw c.in-Kept.is refl
