-- `plan::parts::after_helix` meets its contract. Assumes nothing.
use Rattle.plan.proofs.PartsLaws.{helix-bored, helix-none}
use Rattle.plan.proofs.parts.after_helix.Goals as goal

pub returns-in_default : goal.returns-in_default
returns-in_default c = helix-none c.args.p _ _ c.in_default.is

pub returns : goal.returns
returns c = helix-bored c.args.p _ _ _ c.in-Some.is
