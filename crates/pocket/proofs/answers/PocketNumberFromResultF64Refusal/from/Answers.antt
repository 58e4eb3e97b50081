-- `pocket::answers::PocketNumberFromResultF64Refusal::from` meets its contract. Assumes nothing.
use mathlib.Core.Path.{ap, ◌∙◌}
use Rattle.pocket.specs.Answers.{number_by}
use Rattle.pocket.proofs.answers.PocketNumberFromResultF64Refusal.from.Goals as goal

pub returns : goal.returns
returns c = c.of_number.ensures ∙ ap number_by c.numbered.ensures
