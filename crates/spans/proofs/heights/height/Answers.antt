-- `spans::heights::height` meets its contract. Assumes nothing.
use mathlib.Core.Path.{◌≡◌, sym, ◌∙◌}
use mathlib.Core.Bool.{true, ◌&&◌}
use lib.Ieee.{binary64, sub}
use Rattle.numbers.specs.Order.{is_finite}
use Rattle.loops.proofs.Cases.{both}
use Rattle.spans.proofs.HeightLaws.{high_is}
use Rattle.spans.proofs.heights.height.Goals as goal
use Rattle.spans.proofs.heights.height.Goals.{Then-is_finite}

pub returns-then-is_finite : goal.returns-then-is_finite
returns-then-is_finite c =
    high_is _ _ _ _ _ _ c.requires.r2_value c.requires.lo_value.0 c.requires.lo_value.1 (sym c.is_finite.ensures ∙ (both _ _ c.if-is_finite.true).0) c.big_of.ensures c.small_of.ensures
