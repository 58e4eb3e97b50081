-- `pocket::answers::PocketCellFromResultOptionTuple2UsizeUsizeRefusal::from` meets its contract. Assumes nothing.
use mathlib.Core.Path.{ap, ◌∙◌}
use Rattle.pocket.specs.Answers.{cell_by}
use Rattle.pocket.proofs.answers.PocketCellFromResultOptionTuple2UsizeUsizeRefusal.from.Goals as goal

pub returns : goal.returns
returns c = c.of_cell.ensures ∙ ap cell_by c.numbered.ensures
