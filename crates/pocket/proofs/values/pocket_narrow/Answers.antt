-- `pocket::values::pocket_narrow` meets its contract. Assumes nothing.
use mathlib.Core.Path.{ap, ◌∙◌}
use Rattle.pocket.specs.Answers.{of_single}
use Rattle.pocket.proofs.values.pocket_narrow.Goals as goal

pub returns : goal.returns
returns c = c.from.ensures ∙ ap of_single c.narrow.ensures
