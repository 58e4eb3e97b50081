-- `raster::disk::span_less` meets its contract. Assumes nothing.
use Rattle.raster.proofs.DiskLaws.{less_none, less-all, less_two, less-before, less-after}
use Rattle.raster.proofs.disk.span_less.Goals as goal

pub returns-in_default : goal.returns-in_default
returns-in_default c = less_none _ _ c.in_default.is

pub returns-in_default-q : goal.returns-in_default-q
returns-in_default-q c = less-all _ _ _ _ c.in-Some.is c.in_default-q.is

pub returns-then-i1-p0 : goal.returns-then-i1-p0
returns-then-i1-p0 c = less-after _ _ _ _ c.in-Some.is _ _ c.in-Some-q.is c.if-i1-p0.true

pub returns-then-p1-i0 : goal.returns-then-p1-i0
returns-then-p1-i0 c = less-before _ _ _ _ c.in-Some.is _ _ c.in-Some-q.is c.if-i1-p0.false c.if-p1-i0.true

pub returns : goal.returns
returns c = less_two _ _ _ _ c.in-Some.is _ _ c.in-Some-q.is c.if-i1-p0.false c.if-p1-i0.false _ _ c.left_of.ensures c.right_of.ensures
