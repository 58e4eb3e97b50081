-- `raster::disk::right_of` meets its contract. Assumes nothing.
use borrow.Author.Tests.{lt-ltb, le-ltb}
use Rattle.raster.specs.Disk.{right_of}
use Rattle.raster.proofs.disk.right_of.Goals as goal

pub returns-then-p1-i1 : goal.returns-then-p1-i1
unfolding right_of
returns-then-p1-i1 c = rw (lt-ltb _ _ c.if-p1-i1.true)

pub returns : goal.returns
unfolding right_of
returns c = rw (le-ltb _ _ c.if-p1-i1.false)
