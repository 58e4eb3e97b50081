-- `raster::disk::cols_between` meets its contract. Assumes nothing.
use Rattle.raster.proofs.DiskLaws.{between_none, between-past, between_are}
use Rattle.raster.proofs.disk.cols_between.Goals as goal

pub returns-then-k1-k0 : goal.returns-then-k1-k0
returns-then-k1-k0 c = between_none _ _ _ c.requires.k0_bound c.requires.k1_bound c.if-k1-k0.true

pub returns-then-nx-k0 : goal.returns-then-nx-k0
returns-then-nx-k0 c = between-past _ _ _ c.requires.k0_bound c.requires.k1_bound c.if-k1-k0.false c.if-nx-k0.true

pub returns : goal.returns
returns c = between_are _ _ _ c.requires.k0_bound c.requires.k1_bound c.if-k1-k0.false c.if-nx-k0.false _ c.at_most_last.ensures
