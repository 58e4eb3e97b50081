-- `pocket::answers::PocketRimFromResultContactRefusal::from` meets its contract. Assumes nothing.
use mathlib.Core.Path.{ap, ◌∙◌}
use Rattle.pocket.specs.Answers.{rim_by}
use Rattle.pocket.proofs.answers.PocketRimFromResultContactRefusal.from.Goals as goal

pub returns : goal.returns
returns c = c.of_rim.ensures ∙ ap rim_by c.numbered.ensures
