-- `pocket::answers::of_done` meets its contract. Assumes nothing.
use mathlib.Core.Path.{ap, ◌∙◌}
use Rattle.pocket.specs.Answers.{done_by}
use Rattle.pocket.proofs.answers.of_done.Goals as goal

pub returns : goal.returns
returns c = c.done_by.ensures ∙ ap done_by c.numbered.ensures
