-- `setup::place::allowed_at` meets its contract. Assumes nothing.
use Rattle.setup.proofs.PlaceLaws.{allowed-far, allowed-near, allowed-clear}
use Rattle.setup.proofs.place.allowed_at.Goals as goal

pub returns-then-any_within : goal.returns-then-any_within
returns-then-any_within c = allowed-near _ _ _ _ _ _ c.wall_at.ensures c.if-wall_at.true _ c.any_within.ensures c.if-any_within.true

pub returns-then-wall_at : goal.returns-then-wall_at
returns-then-wall_at c = allowed-clear _ _ _ _ _ _ c.wall_at.ensures c.if-wall_at.true _ c.any_within.ensures c.if-any_within.false _ c.contains.ensures

pub returns : goal.returns
returns c = allowed-far _ _ _ _ _ _ c.wall_at.ensures c.if-wall_at.false
