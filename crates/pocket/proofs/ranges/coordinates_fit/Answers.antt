-- `pocket::ranges::coordinates_fit` meets its contract. Assumes nothing.
use mathlib.Core.Path.{sym, ap, ◌∙◌}
use mathlib.Core.Bool.{false, not}
use Rattle.loops.proofs.LoopLaws.{going_none, any-on, any_out, any_none}
use Rattle.pocket.specs.Ranges.{coordinates_fit}
use Rattle.pocket.proofs.ranges.coordinates_fit.Goals as goal

pub loop-x-init : goal.loop-x-init
loop-x-init c = going_none _ _ _ _

pub returns-then-not-coordinate_fits : goal.returns-then-not-coordinate_fits
unfolding coordinates_fit
returns-then-not-coordinate_fits c = ap not (any_out _ _ _ c.loop-x.x-index c.loop-x.invariant c.loop-x-test.true (ap not (sym c.coordinate_fits.ensures) ∙ ap not c.if-not-coordinate_fits.true))

pub loop-x-preserved : goal.loop-x-preserved
loop-x-preserved c = any-on _ _ _ c.loop-x.x-index c.loop-x.invariant c.loop-x-test.true (ap not (sym c.coordinate_fits.ensures) ∙ ap not c.if-not-coordinate_fits.false)

pub returns : goal.returns
unfolding coordinates_fit
returns c = ap not (any_none _ _ _ c.loop-x.x-index c.loop-x.invariant c.loop-x-test.false)
