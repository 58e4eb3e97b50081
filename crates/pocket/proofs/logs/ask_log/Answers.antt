-- `pocket::logs::ask_log` meets its contract. Assumes nothing.
use mathlib.Core.Path.{sym, ◌∙◌}
use native.Mathlib.Omega.{arith}
use Rattle.pocket.proofs.AskedLaws.{sides-few}
use Rattle.pocket.proofs.LoggedLaws.{log_odd, log_not, log-rest}
use Rattle.pocket.proofs.logs.ask_log.Goals as goal

pub returns-then-not-sides_fit : goal.returns-then-not-sides_fit
returns-then-not-sides_fit c = let s = c.args in
    log_odd _ _ _ s.log.now _ (sym c.sides_fit.ensures ∙ c.if-not-sides_fit.true)

pub overflow_mul-ny : goal.overflow_mul-ny
overflow_mul-ny c = let s = c.args in
    omega (arith, sides-few s.nx s.ny (sym c.sides_fit.ensures ∙ c.if-not-sides_fit.false))

pub returns-then-not-log_fits : goal.returns-then-not-log_fits
returns-then-not-log_fits c = let s = c.args in
    log_not _ _ _ s.log.now _ (sym c.sides_fit.ensures ∙ c.if-not-sides_fit.false) (sym c.log_fits.ensures ∙ c.if-not-log_fits.true)

pub returns : goal.returns
returns c = let s = c.args in
    log-rest _ _ _ s.log.now _ (sym c.sides_fit.ensures ∙ c.if-not-sides_fit.false) (sym c.log_fits.ensures ∙ c.if-not-log_fits.false) _ c.ask_size.ensures
