-- `raster::log::undo` meets its contract. Assumes nothing.
use Rattle.raster.specs.Log.{undone}
use Rattle.raster.proofs.log.undo.Goals as goal

pub returns : goal.returns
unfolding undone
returns c = c.write_logged.ensures
