-- `spans::heights::heights_of` meets its contract. The invariant: the heights are those of the rows so far. Assumes nothing.
use mathlib.Core.Path.{◌≡◌, sym, subst}
use mathlib.Core.Bool.{true}
use Prim.Native.Nat.{◌<◌}
use native.Mathlib.Omega.{arith}
use lib.Ieee.{Float}
use Rattle.numbers.specs.Order.{is_finite}
use Rattle.spans.proofs.MonoLaws.{finite_number}
use Rattle.spans.proofs.HeightLaws.{least_start, high-none, high-turn, high_end}
use Rattle.spans.proofs.heights.heights_of.Goals as goal
use Rattle.spans.proofs.heights.heights_of.Goals.{In-loop-j}

pub loop-j-init : goal.loop-j-init
loop-j-init c = (omega arith, high-none _ _ _ _ _ (finite_number _ c.requires.r2_value) least_start)

pub loop-j-preserved : goal.loop-j-preserved
loop-j-preserved c = let at = c.loop-j.invariant in
    (omega (arith, at.0), high-turn _ _ _ _ _ _ _ _ _ _ _ c.joined-h.ensures c.row_y.ensures c.below-lo.ensures c.beyond-hi.ensures c.in_ok-height.ensures at.1)
