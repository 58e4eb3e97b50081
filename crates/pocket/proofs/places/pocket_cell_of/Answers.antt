-- `pocket::places::pocket_cell_of` meets its contract. Assumes nothing.
use mathlib.Core.Path.{ap, ◌∙◌}
use Rattle.pocket.specs.Answers.{of_cell}
use Rattle.pocket.proofs.places.pocket_cell_of.Goals as goal

pub returns : goal.returns
returns c = c.from.ensures ∙ ap of_cell c.cell_of.ensures
