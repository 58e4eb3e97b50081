-- `pocket::values::sqrt` meets its contract. Assumes nothing.
use mathlib.Core.Path.{ap}
use Rattle.std.specs.Prelude.{Ok, Err}
use Rattle.pocket.specs.Leaves.{sqrt_of}
use Rattle.pocket.proofs.LeafLaws.{when_yes, when_not}
use Rattle.pocket.proofs.values.sqrt.Goals as goal

pub returns-then-root_fits : goal.returns-then-root_fits
unfolding sqrt_of
returns-then-root_fits c = when_yes _ _ c.root_fits.ensures c.if-root_fits.true _ _ _ (ap Ok c.sqrt.ensures)

pub returns : goal.returns
unfolding sqrt_of
returns c = when_not _ _ c.root_fits.ensures c.if-root_fits.false _ _
