-- `examples::answer` meets its contract. Assumes nothing.
use Rattle.std.proofs.Common.{ap, rules}
use Rattle.planner.specs.Planner.{Outcome}
use Rattle.examples.specs.Examples.{answer_to}
use Rattle.examples.proofs.answer.Goals as goal

pub returns : goal.returns
unfolding answer_to
returns c = ap (λ (o : Outcome). o.answer) c.adaptive_clear.ensures.result_after
