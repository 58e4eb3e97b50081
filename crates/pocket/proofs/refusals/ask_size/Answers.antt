-- `pocket::refusals::ask_size` meets its contract. Assumes nothing.
use mathlib.Core.Path.{sym, ◌∙◌}
use native.Mathlib.Omega.{arith}
use Rattle.pocket.proofs.AskedLaws.{sides-few, size_odd, size_short, size_fits}
use Rattle.pocket.proofs.refusals.ask_size.Goals as goal

pub returns-then-not-sides_fit : goal.returns-then-not-sides_fit
returns-then-not-sides_fit c = size_odd _ _ _ (sym c.sides_fit.ensures ∙ c.if-not-sides_fit.true)

pub overflow_mul-ny : goal.overflow_mul-ny
overflow_mul-ny c = let s = c.args in
    omega (arith, sides-few s.nx s.ny (sym c.sides_fit.ensures ∙ c.if-not-sides_fit.false))

pub returns-then-long-ny : goal.returns-then-long-ny
returns-then-long-ny c = size_short _ _ _ (sym c.sides_fit.ensures ∙ c.if-not-sides_fit.false) c.if-long-ny.true

pub returns : goal.returns
returns c = size_fits _ _ _ (sym c.sides_fit.ensures ∙ c.if-not-sides_fit.false) c.if-long-ny.false
