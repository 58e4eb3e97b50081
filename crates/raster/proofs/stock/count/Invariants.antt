-- `raster::stock::count` meets its contract. The invariant: what is counted is what the cells so far hold. Assumes nothing.
use Prim.Native.Nat.{◌≤◌}
use mathlib.Core.Path.{◌≡◌}
use lib.ListN.{length, take}
use Rattle.loops.specs.Cells.{ones}
use Rattle.raster.proofs.stock.count.Given as goal

abbrev pub invariant-loop-cell : goal.invariant-loop-cell
invariant-loop-cell l = (l.cell-index ≤ length l.map) × (l.standing ≡ ones (take l.cell-index l.map))
