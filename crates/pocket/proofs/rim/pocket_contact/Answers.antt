-- `pocket::rim::pocket_contact` meets its contract. Assumes nothing.
use mathlib.Core.Path.{ap, ◌∙◌}
use Rattle.pocket.specs.Answers.{of_rim}
use Rattle.pocket.proofs.rim.pocket_contact.Goals as goal

pub returns : goal.returns
returns c = c.from.ensures ∙ ap of_rim c.contact.ensures
