-- `pocket::values::pocket_wanted` meets its contract. Assumes nothing.
use mathlib.Core.Path.{ap, ◌∙◌}
use Rattle.pocket.specs.Answers.{of_count}
use Rattle.pocket.proofs.values.pocket_wanted.Goals as goal

pub returns : goal.returns
returns c = c.from.ensures ∙ ap of_count c.wanted.ensures
