-- `raster::grid::sized` meets its contract. Assumes nothing.
use Prim.Native.Nat.{◌+◌, ◌≤◌}
use native.Mathlib.Omega.{arith}
use Rattle.raster.proofs.GridLaws.{few-cells, sized-wide, sized-high, sized_many, sized-is}
use Rattle.raster.proofs.grid.sized.Goals as goal

pub returns-then-ny-nx-le1048576 : goal.returns-then-ny-nx-le1048576
returns-then-ny-nx-le1048576 c = sized-is _ _ _ _ _ _ c.reach-w.ensures c.reach-h.ensures c.if-w-lt4096.true c.if-h-lt4096.true c.if-ny-nx-le1048576.true _ c.sub-origin.ensures

pub returns-else-ny-nx-le1048576 : goal.returns-else-ny-nx-le1048576
returns-else-ny-nx-le1048576 c = sized_many _ _ _ _ _ _ c.reach-w.ensures c.reach-h.ensures c.if-w-lt4096.true c.if-h-lt4096.true c.if-ny-nx-le1048576.false

pub returns-else-h-lt4096 : goal.returns-else-h-lt4096
returns-else-h-lt4096 c = sized-high _ _ _ _ _ _ c.reach-w.ensures c.reach-h.ensures c.if-w-lt4096.true c.if-h-lt4096.false

pub returns-else-w-lt4096 : goal.returns-else-w-lt4096
returns-else-w-lt4096 c = sized-wide _ _ _ _ _ 0 c.reach-w.ensures c.if-w-lt4096.false
