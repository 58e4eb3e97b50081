-- `raster::clear::clear_disk` meets its contract. The invariant: the map and the count are what the rows so far leave, and the next row begins at cell `base`. Assumes nothing.
use mathlib.Core.Path.{◌≡◌}
use Prim.Native.Nat.{◌+◌, ◌*◌}
use Rattle.loops.proofs.LoopLaws.{Going}
use Rattle.raster.specs.Sweep.{disk_at}
use Rattle.raster.specs.Stock.{cl, drop_cell}
use Rattle.raster.proofs.clear.clear_disk.Given as goal

abbrev pub invariant-loop-j : goal.invariant-loop-j
invariant-loop-j l = Going (disk_at drop_cell l.g l.c l.r) l.first (l.last + 1) (cl l.initial.map 0) (cl l.map l.n) l.j × (l.base ≡ l.j * l.nx)
