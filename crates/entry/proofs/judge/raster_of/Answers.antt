-- `entry::judge::raster_of` meets its contract. Assumes nothing.
use mathlib.Core.Path.{sym, subst}
use Rattle.geom.specs.Region.{Held}
use Rattle.entry.proofs.RasterLaws.{raster_is}
use Rattle.entry.proofs.judge.raster_of.Goals as goal

pub returns : goal.returns
returns c = raster_is _ _ _ _ _ _ _ _ c.pocket_of-region.ensures c.bounds-c.ensures c.cell_of-cell.ensures c.new.ensures
