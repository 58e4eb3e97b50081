-- `tracing::round::level` meets its contract. Assumes nothing.
use Rattle.tracing.specs.Round.{level_of}
use Rattle.tracing.proofs.round.level.Goals as goal

pub returns : goal.returns
unfolding level_of
returns c = c.narrow.ensures
