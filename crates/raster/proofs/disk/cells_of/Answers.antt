-- `raster::disk::cells_of` meets its contract. Assumes nothing.
use Rattle.raster.proofs.SweepLaws.{cells-none, cells-some, cells-crossed}
use Rattle.raster.proofs.disk.cells_of.Goals as goal

pub returns-in_default : goal.returns-in_default
returns-in_default c = cells-none _ _ c.in_default.is

pub returns-then-first-last : goal.returns-then-first-last
returns-then-first-last c = cells-some _ _ _ _ c.in-Some.is c.if-first-last.true

pub returns : goal.returns
returns c = cells-crossed _ _ _ _ c.in-Some.is c.if-first-last.false
