-- `entry::params::helix_of` meets its contract. Assumes nothing.
use mathlib.Core.Path.{◌∙◌}
use Rattle.entry.specs.Questions.{helix_of}
use Rattle.entry.proofs.RangeLaws.{given-is}
use Rattle.entry.proofs.params.helix_of.Goals as goal

pub returns : goal.returns
unfolding helix_of
returns c = c.unwrap_or.ensures ∙ given-is _ _
