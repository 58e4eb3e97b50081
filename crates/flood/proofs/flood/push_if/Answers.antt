-- `flood::flood::push_if` meets its contract. Assumes nothing.
use mathlib.Core.Path.{◌∙◌}
use native.Mathlib.Omega.{arith}
use Rattle.flood.proofs.FloodLaws.{push_new, push_old}
use Rattle.flood.proofs.flood.push_if.Goals as goal

pub returns-then-there : goal.returns-then-there
returns-then-there c = record { stack_after = push_new _ _ _ c.args.there _ c.requires.len_in_bounds c.if-there.true _ (c.number_of.ensures ∙ c.cell_at.ensures); upper_bound = omega arith }
