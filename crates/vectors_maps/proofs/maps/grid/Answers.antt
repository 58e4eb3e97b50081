-- `vectors_maps::maps::grid` meets its contract. Assumes nothing.
use Rattle.vectors_maps.specs.Maps.{grid_of}
use Rattle.vectors_maps.proofs.maps.grid.Goals as goal

pub returns : goal.returns
unfolding grid_of
returns c = let a = c.args in λ i. record { origin = c.point.ensures i; cell = c.float.ensures i; nx = a.nx; ny = a.ny }
