-- `raster::disk::cols_of` meets its contract. Assumes nothing.
use Rattle.raster.proofs.DiskLaws.{cols_past, cols_are}
use Rattle.raster.specs.Disk.{cols_of}
use Rattle.raster.proofs.disk.cols_of.Goals as goal

pub returns-then-i1 : goal.returns-then-i1
unfolding cols_of
returns-then-i1 c = rw c.if-i1.true

pub returns-then-i1-i0 : goal.returns-then-i1-i0
unfolding cols_of
returns-then-i1-i0 c = rw (c.if-i1.false, c.if-i1-i0.true)

pub returns-then-float_of-i0 : goal.returns-then-float_of-i0
returns-then-float_of-i0 c = cols_past _ _ _ c.if-i1.false c.if-i1-i0.false _ c.float_of.ensures c.if-float_of-i0.true

pub returns : goal.returns
returns c = cols_are _ _ _ c.if-i1.false c.if-i1-i0.false _ c.float_of.ensures c.if-float_of-i0.false
    _ _ _ c.sat_u64.ensures c.sat_u64-2.ensures c.at_most_last.ensures
