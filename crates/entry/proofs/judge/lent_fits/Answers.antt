-- `entry::judge::lent_fits` meets its contract. Assumes nothing.
use mathlib.Core.Path.{refl}
use Rattle.entry.specs.Questions.{lent_fit}
use Rattle.entry.proofs.judge.lent_fits.Goals as goal

pub returns : goal.returns
unfolding lent_fit
returns c = rw c.cells-n.ensures refl
