-- `pocket::values::narrow` meets its contract. Assumes nothing.
use mathlib.Core.Path.{ap}
use Rattle.std.specs.Prelude.{Ok, Err}
use Rattle.pocket.specs.Leaves.{narrowed_of}
use Rattle.pocket.proofs.LeafLaws.{when_yes, when_not}
use Rattle.pocket.proofs.values.narrow.Goals as goal

pub returns-then-is_finite : goal.returns-then-is_finite
unfolding narrowed_of
returns-then-is_finite c = when_yes _ _ c.is_finite.ensures c.if-is_finite.true _ _ _ (ap Ok c.narrow.ensures)

pub returns : goal.returns
unfolding narrowed_of
returns c = when_not _ _ c.is_finite.ensures c.if-is_finite.false _ _
