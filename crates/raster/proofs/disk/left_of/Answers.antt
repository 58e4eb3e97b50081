-- `raster::disk::left_of` meets its contract. Assumes nothing.
use borrow.Author.Tests.{lt-ltb, le-ltb}
use Rattle.raster.specs.Disk.{left_of}
use Rattle.raster.proofs.disk.left_of.Goals as goal

pub returns-then-i0-p0 : goal.returns-then-i0-p0
unfolding left_of
returns-then-i0-p0 c = rw (lt-ltb _ _ c.if-i0-p0.true)

pub returns : goal.returns
unfolding left_of
returns c = rw (le-ltb _ _ c.if-i0-p0.false)
