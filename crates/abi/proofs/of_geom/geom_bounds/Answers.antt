-- `abi::of_geom::geom_bounds` meets its contract. Assumes nothing.
use mathlib.Core.Path.{ap}
use native.Mathlib.Omega.{arith}
use lib.ListN.{length-set}
use Rattle.geom.specs.declared.region.Corners.{Corners}
use Rattle.abi.specs.Geom.{put4}
use Rattle.abi.proofs.of_geom.geom_bounds.Goals as goal

pub bounds-out-1 : goal.bounds-out-1
bounds-out-1 c = simp length-set (omega arith)

pub bounds-out-2 : goal.bounds-out-2
bounds-out-2 c = simp length-set (omega arith)

pub returns : goal.returns
unfolding put4
returns c = ap (λ (k : Corners). put4 k c.args.out.now) c.bounds-c.ensures
