-- `raster::disk::raised` meets its contract. Assumes nothing.
use Rattle.raster.proofs.DiskLaws.{raised_more, raised_not}
use Rattle.raster.proofs.disk.raised.Goals as goal

pub returns-then-t-x : goal.returns-then-t-x
returns-then-t-x c = raised_more _ c.requires.x_value c.requires.pos_value _ c.sat_u32-t.ensures c.if-t-x.true

pub returns : goal.returns
returns c = raised_not _ c.requires.x_value c.requires.pos_value _ c.sat_u32-t.ensures c.if-t-x.false
