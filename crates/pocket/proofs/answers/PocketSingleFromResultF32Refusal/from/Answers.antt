-- `pocket::answers::PocketSingleFromResultF32Refusal::from` meets its contract. Assumes nothing.
use mathlib.Core.Path.{ap, ◌∙◌}
use Rattle.pocket.specs.Answers.{single_by}
use Rattle.pocket.proofs.answers.PocketSingleFromResultF32Refusal.from.Goals as goal

pub returns : goal.returns
returns c = c.of_single.ensures ∙ ap single_by c.numbered.ensures
