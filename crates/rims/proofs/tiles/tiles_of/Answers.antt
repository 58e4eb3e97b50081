-- `rims::tiles::tiles_of` meets its contract. Assumes nothing.
use mathlib.Core.Path.{refl}
use Rattle.rims.specs.Tiles.{tiles_of}
use Rattle.rims.proofs.tiles.tiles_of.Goals as goal

pub returns : goal.returns
unfolding tiles_of
returns c = refl
