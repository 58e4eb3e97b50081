-- `pocket::maps::pocket_standing` meets its contract. Assumes nothing.
use mathlib.Core.Path.{ap, ◌∙◌}
use Rattle.pocket.specs.Answers.{of_count}
use Rattle.pocket.proofs.maps.pocket_standing.Goals as goal

pub returns : goal.returns
returns c = c.from.ensures ∙ ap of_count c.standing.ensures
