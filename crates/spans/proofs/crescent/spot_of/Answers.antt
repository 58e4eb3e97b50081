-- `spans::crescent::spot_of` meets its contract. Assumes nothing.
use mathlib.Core.Path.{refl, sym, ◌∙◌}
use native.Mathlib.Omega.{arith}
use Rattle.raster.proofs.GridLaws.{on-grid-at}
use Rattle.spans.proofs.crescent.spot_of.Goals as goal

pub overflow_sub-g : goal.overflow_sub-g
overflow_sub-g c = omega (arith, (on-grid-at _ _ _ _ _ c.cell_of.ensures c.in_ok-i.was).0)

pub overflow_sub-g-then-s-g : goal.overflow_sub-g-then-s-g
overflow_sub-g-then-s-g c = omega (arith, (on-grid-at _ _ _ _ _ c.cell_of.ensures c.in_ok-i.was).1)
