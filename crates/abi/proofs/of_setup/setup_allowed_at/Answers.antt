-- `abi::of_setup::setup_allowed_at` meets its contract. Assumes nothing.
use mathlib.Core.Path.{◌∙◌}
use Rattle.abi.proofs.SetupLaws.{walls_of_lem, allowed-plain}
use Rattle.abi.proofs.of_setup.setup_allowed_at.Goals as goal

pub allowed_at-requires : goal.allowed_at-requires
allowed_at-requires c = walls_of_lem _ _ _ _ _ _ c.made-s.ensures.0 c.made-s.ensures.1 _ _ _ c.requires.over c.requires.held

pub returns : goal.returns
returns c = c.allowed_at.ensures ∙ allowed-plain _ _ _ _ _ _ c.made-s.ensures.0 c.made-s.ensures.1 _ _ _ _
