-- `pocket::answers::numbered` meets its contract. Assumes nothing.
use mathlib.Core.Path.{sym, ap, ◌∙◌}
use Rattle.std.specs.Prelude.{Err}
use Rattle.pocket.specs.Answers.{numbered}
use Rattle.pocket.proofs.answers.numbered.Goals as goal

pub returns-in-Ok : goal.returns-in-Ok
unfolding numbered
returns-in-Ok g c = ap numbered (sym c.in-Ok.is)

pub returns-in-Err : goal.returns-in-Err
unfolding numbered
returns-in-Err g c = ap Err c.into.ensures ∙ ap numbered (sym c.in-Err.is)
