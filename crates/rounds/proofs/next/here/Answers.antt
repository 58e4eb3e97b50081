-- `rounds::next::here` meets its contract. Assumes nothing.
use mathlib.Core.Path.{◌∙◌}
use Rattle.rounds.proofs.NextLaws.{here-is}
use Rattle.rounds.proofs.next.here.Goals as goal

pub returns : goal.returns
returns c = c.unwrap_or.ensures ∙ here-is _
