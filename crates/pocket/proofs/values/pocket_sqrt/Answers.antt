-- `pocket::values::pocket_sqrt` meets its contract. Assumes nothing.
use mathlib.Core.Path.{ap, ◌∙◌}
use Rattle.pocket.specs.Answers.{of_number}
use Rattle.pocket.proofs.values.pocket_sqrt.Goals as goal

pub returns : goal.returns
returns c = c.from.ensures ∙ ap of_number c.sqrt.ensures
