-- `raster::stock::count_disk` meets its contract. The invariant: the count is what the rows so far leave, the next row begins at cell `base`, and no more is counted than cells before it. Assumes nothing.
use mathlib.Core.Path.{◌≡◌}
use Prim.Native.Nat.{◌+◌, ◌*◌, ◌≤◌}
use Rattle.loops.proofs.LoopLaws.{Going}
use Rattle.raster.specs.Sweep.{disk_at}
use Rattle.raster.specs.Stock.{tally}
use Rattle.raster.proofs.stock.count_disk.Given as goal

abbrev pub invariant-loop-j : goal.invariant-loop-j
invariant-loop-j l = Going (disk_at (tally l.map) l.g l.c l.r) l.first (l.last + 1) 0 l.n l.j × (l.base ≡ l.j * l.nx) × (l.n ≤ l.base)
