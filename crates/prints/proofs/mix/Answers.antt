-- `prints::mix` meets its contract. Assumes nothing.
use mathlib.Core.Path.{refl}
use Rattle.prints.specs.Print.{mixed}
use Rattle.prints.proofs.mix.Goals as goal

pub returns : goal.returns
unfolding mixed
returns c = refl
