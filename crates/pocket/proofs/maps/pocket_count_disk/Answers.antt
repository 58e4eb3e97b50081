-- `pocket::maps::pocket_count_disk` meets its contract. Assumes nothing.
use mathlib.Core.Path.{ap, ◌∙◌}
use Rattle.pocket.specs.Answers.{of_count}
use Rattle.pocket.proofs.maps.pocket_count_disk.Goals as goal

pub returns : goal.returns
returns c = c.from.ensures ∙ ap of_count c.count_disk.ensures
