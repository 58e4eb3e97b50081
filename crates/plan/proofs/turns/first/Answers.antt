-- `plan::turns::first` meets its contract. Assumes nothing.
use mathlib.Core.Path.{refl}
use Rattle.plan.specs.Rounds.{first_progress}
use Rattle.plan.proofs.turns.first.Goals as goal

pub returns : goal.returns
unfolding first_progress
returns c = refl
