-- `pocket::adaptive::no_report` meets its contract. Assumes nothing.
use mathlib.Core.Path.{refl}
use Rattle.pocket.specs.Plan.{no_report}
use Rattle.pocket.proofs.adaptive.no_report.Goals as goal

pub returns : goal.returns
unfolding no_report
returns c = refl
