-- `pocket::rim::pocket_contact_angle` meets its contract. Assumes nothing.
use mathlib.Core.Path.{ap, ◌∙◌}
use Rattle.pocket.specs.Answers.{of_number}
use Rattle.pocket.proofs.rim.pocket_contact_angle.Goals as goal

pub returns : goal.returns
returns c = c.from.ensures ∙ ap of_number c.contact_angle.ensures
