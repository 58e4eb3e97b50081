-- `pocket::answers::PocketCountFromResultUsizeRefusal::from` meets its contract. Assumes nothing.
use mathlib.Core.Path.{ap, ◌∙◌}
use Rattle.pocket.specs.Answers.{count_by}
use Rattle.pocket.proofs.answers.PocketCountFromResultUsizeRefusal.from.Goals as goal

pub returns : goal.returns
returns c = c.of_count.ensures ∙ ap count_by c.numbered.ensures
