-- `raster::log::clear_disk_after_logged` meets its contract. The invariant: the map, the log and the count are what the rows so far leave, and the next row begins at cell `base`. Assumes nothing.
use mathlib.Core.Path.{◌≡◌}
use Prim.Native.Nat.{◌+◌, ◌*◌}
use Rattle.raster.specs.Sweep.{crescent_at}
use Rattle.raster.specs.Log.{st, clear_cell}
use Rattle.loops.proofs.LoopLaws.{Going}
use Rattle.raster.proofs.log.clear_disk_after_logged.Given as goal

abbrev pub invariant-loop-y : goal.invariant-loop-y
invariant-loop-y l = Going (crescent_at clear_cell l.g l.prev l.c l.r) l.first (l.last + 1) (st l.initial.map l.initial.log l.count) (st l.map l.log l.n) l.y × (l.base ≡ l.y * l.nx)
