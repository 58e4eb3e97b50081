-- `abi::of_cutting::spot` meets its contract. Assumes nothing.
use mathlib.Core.Path.{◌≡◌, refl, ◌∙◌}
use Rattle.std.specs.Prelude.{None, Some, unwrap_or}
use Rattle.geom.specs.Vec.{v2, f0}
use Rattle.passes.specs.Start.{Place}
use Rattle.abi.specs.Cutting.{spot_of}
use Rattle.abi.proofs.of_cutting.spot.Goals as goal

spot-is : (p : Place) → unwrap_or p (v2 f0 f0) ≡ spot_of p
unfolding spot_of
spot-is None = refl
spot-is (Some p) = refl

pub returns : goal.returns
returns c = c.unwrap_or.ensures ∙ spot-is _
