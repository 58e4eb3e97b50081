-- `passes::start::is_nearer` meets its contract. Assumes nothing.
use mathlib.Core.Path.{◌∙◌}
use Rattle.passes.proofs.StartLaws.{nearer_by}
use Rattle.passes.proofs.start.is_nearer.Goals as goal

pub returns : goal.returns
returns c = c.greater.ensures ∙ nearer_by _ _ _ c.total_cmp.ensures
