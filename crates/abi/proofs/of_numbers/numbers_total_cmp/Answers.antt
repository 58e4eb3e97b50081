-- `abi::of_numbers::numbers_total_cmp` meets its contract: a number for each case. Assumes nothing.
use mathlib.Core.Path.{sym, ap, ◌∙◌}
use Rattle.abi.specs.Numbers.{sign_of}
use Rattle.abi.proofs.of_numbers.numbers_total_cmp.Goals as goal

pub returns-in-Less : goal.returns-in-Less
unfolding sign_of
returns-in-Less c = ap sign_of (sym c.in-Less.is ∙ c.total_cmp-o.ensures)

pub returns-in-Equal : goal.returns-in-Equal
unfolding sign_of
returns-in-Equal c = ap sign_of (sym c.in-Equal.is ∙ c.total_cmp-o.ensures)

pub returns-in-Greater : goal.returns-in-Greater
unfolding sign_of
returns-in-Greater c = ap sign_of (sym c.in-Greater.is ∙ c.total_cmp-o.ensures)
