-- `report::clear::clear_workspace` meets its contract. Assumes nothing.
use Rattle.report.proofs.ZeroLaws.{blank-is}
use Rattle.report.proofs.clear.clear_workspace.Goals as goal

pub returns-clause-b_after : goal.returns-clause-b_after
returns-clause-b_after c = blank-is 0 _ _ c.requires _ (c.fill.ensures.after (λ y h. h))
