-- `abi::of_raster::raster_undo` meets its contract. Assumes nothing.
use mathlib.Core.Path.{◌∙◌}
use Rattle.raster.proofs.LogLaws.{undone-front, logged-front, front-long}
use Rattle.abi.proofs.of_raster.raster_undo.Goals as goal

pub slice_bounds-undo-end : goal.slice_bounds-undo-end
slice_bounds-undo-end c = front-long _ _ _ c.requires

pub undo-requires : goal.undo-requires
undo-requires c = logged-front _ _ _ c.requires

pub returns : goal.returns
returns c = c.undo.ensures ∙ undone-front _ _ _ _ c.requires
