-- `start::allowed::is_clear` meets its contract. Assumes nothing.
use mathlib.Core.Path.{refl}
use Rattle.start.proofs.ReachLaws.{center_is, clear_apart, clear_asked}
use Rattle.start.proofs.allowed.is_clear.Goals as goal

pub returns-then-apart : goal.returns-then-apart
returns-then-apart c = clear_apart _ _ _ _ (c.requires.known.inside refl) (c.requires.known.none c.if-apart.true)

pub returns : goal.returns
returns c = clear_asked _ _ _ _ (c.requires.known.inside refl) _ (center_is _ _ _ _ _ c.center-q.ensures c.column_of.ensures c.row_of.ensures) _ c.any_within.ensures
