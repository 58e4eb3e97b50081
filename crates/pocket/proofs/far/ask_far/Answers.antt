-- `pocket::far::ask_far` meets its contract. Assumes nothing.
use mathlib.Core.Path.{refl, sym, ◌∙◌}
use native.Mathlib.Omega.{arith}
use Rattle.pocket.specs.Refusals.{far_asked}
use Rattle.pocket.proofs.AskedLaws.{sides-few, map-sides}
use Rattle.pocket.proofs.LeafLaws.{when_yes, when_not}
use Rattle.pocket.proofs.far.ask_far.Goals as goal

pub returns-then-not-sides_fit : goal.returns-then-not-sides_fit
unfolding far_asked
returns-then-not-sides_fit c = when_not _ _ c.sides_fit.ensures c.if-not-sides_fit.true _ _

pub overflow_mul-n : goal.overflow_mul-n
overflow_mul-n c = let s = c.args in
    omega (arith, sides-few s.nx s.ny (sym c.sides_fit.ensures ∙ c.if-not-sides_fit.false))

pub overflow_mul-nx : goal.overflow_mul-nx
overflow_mul-nx c = let s = c.args in
    omega (arith, (map-sides s.nx s.ny (sym c.sides_fit.ensures ∙ c.if-not-sides_fit.false)).wide)

pub overflow_add-n : goal.overflow_add-n
overflow_add-n c = let s = c.args in
    let y = (sym c.sides_fit.ensures ∙ c.if-not-sides_fit.false) in
    omega (arith, sides-few s.nx s.ny y, (map-sides s.nx s.ny y).wide)

pub returns-then-n-marks : goal.returns-then-n-marks
unfolding far_asked
returns-then-n-marks c = when_yes _ _ c.sides_fit.ensures c.if-not-sides_fit.false _ _ _ (when_yes _ _ refl c.if-n-marks.true _ _ _ refl)

pub returns : goal.returns
unfolding far_asked
returns c = when_yes _ _ c.sides_fit.ensures c.if-not-sides_fit.false _ _ _ (when_not _ _ refl c.if-n-marks.false _ _)
