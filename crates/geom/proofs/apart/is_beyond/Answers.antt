-- `geom::apart::is_beyond` meets its contract. Assumes nothing.
use mathlib.Core.Path.{refl}
use Rattle.geom.specs.Apart.{beyond_of}
use Rattle.geom.proofs.apart.is_beyond.Goals as goal

pub returns : goal.returns
unfolding beyond_of
returns c = refl
