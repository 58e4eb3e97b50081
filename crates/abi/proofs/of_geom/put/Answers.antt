-- `abi::of_geom::put` meets its contract. Assumes nothing.
use mathlib.Core.Path.{refl}
use Rattle.abi.specs.Geom.{put2}
use Rattle.abi.proofs.of_geom.put.Goals as goal

pub returns : goal.returns
unfolding put2
returns c = refl
