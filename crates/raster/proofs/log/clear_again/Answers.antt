-- `raster::log::clear_again` meets its contract. Assumes nothing.
use Rattle.raster.specs.Log.{redone}
use Rattle.raster.proofs.log.clear_again.Goals as goal

pub returns : goal.returns
unfolding redone
returns c = c.write_logged.ensures
