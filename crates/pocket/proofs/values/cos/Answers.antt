-- `pocket::values::cos` meets its contract. Assumes nothing.
use mathlib.Core.Path.{ap}
use Rattle.std.specs.Prelude.{Ok, Err}
use Rattle.pocket.specs.Leaves.{cosine_of}
use Rattle.pocket.proofs.LeafLaws.{when_yes, when_not}
use Rattle.pocket.proofs.values.cos.Goals as goal

pub returns-then-angle_fits : goal.returns-then-angle_fits
unfolding cosine_of
returns-then-angle_fits c = when_yes _ _ c.angle_fits.ensures c.if-angle_fits.true _ _ _ (ap Ok c.cos.ensures)

pub returns : goal.returns
unfolding cosine_of
returns c = when_not _ _ c.angle_fits.ensures c.if-angle_fits.false _ _
