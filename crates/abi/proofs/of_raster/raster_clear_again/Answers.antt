-- `abi::of_raster::raster_clear_again` meets its contract. Assumes nothing.
use mathlib.Core.Path.{◌∙◌}
use Rattle.raster.proofs.LogLaws.{redone-front, logged-front, front-long}
use Rattle.abi.proofs.of_raster.raster_clear_again.Goals as goal

pub slice_bounds-clear_again-end : goal.slice_bounds-clear_again-end
slice_bounds-clear_again-end c = front-long _ _ _ c.requires

pub clear_again-requires : goal.clear_again-requires
clear_again-requires c = logged-front _ _ _ c.requires

pub returns : goal.returns
returns c = c.clear_again.ensures ∙ redone-front _ _ _ _ c.requires
