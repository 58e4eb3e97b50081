-- `raster::clear::clear_disk` meets its contract. The invariant: the map and the count are what the rows so far leave, and the next row begins at cell `base`. Assumes nothing.
use mathlib.Core.Path.{refl}
use Prim.Native.Nat.{◌*◌, ◌<◌}
use native.Mathlib.Omega.{arith}
use lib.ListN.{length}
use Rattle.loops.proofs.LoopLaws.{going_none, going_more, going_end}
use Rattle.raster.specs.Grid.{Over}
use Rattle.raster.specs.Stock.{clear_disk}
use Rattle.raster.specs.Sweep.{Inside}
use Rattle.raster.proofs.RowLaws.{chord_within, row-ends, row-inside, next_base, last_within}
use Rattle.raster.proofs.SweepLaws.{inside_mono, cells-lie, disk-row-is, disk-is}
use Rattle.raster.proofs.StockLaws.{going_rows_left, fair_left, fair_none, span-cleared}
use Rattle.raster.proofs.clear.clear_disk.Goals as goal
use Rattle.raster.proofs.clear.clear_disk.Goals.{After-chord}

-- the row's columns lie in the map
inside : (c : After-chord) → Inside c.loop-j.base (length c.loop-j.map) c.chord.result
inside c =
    let o : Over c.args.g (length c.loop-j.map) = record { sides = c.requires.sides; long = omega (arith, c.requires.long, c.loop-j.auto.map) } in
    rw c.loop-j.invariant.1 (row-inside _ _ _ _ _ c.rows_of-first.ensures o _ c.loop-j-test.true _ (chord_within _ _ _ _ _ c.chord.ensures c.requires.sides))

pub returns-then-last-first : goal.returns-then-last-first
unfolding clear_disk
returns-then-last-first c = disk-is _ _ _ _ _ _ _ c.rows_of-first.ensures (going_end _ _ _ _ _ _ (going_none _ _ _ _) (omega (arith, c.if-last-first.true)))

pub overflow_mul-base : goal.overflow_mul-base
overflow_mul-base c = omega (arith, row-ends _ _ _ _ _ c.rows_of-first.ensures c.requires c.rows_of-first.result.0 (omega (arith, c.if-last-first.false)), c.well_formed)

pub overflow_add-base : goal.overflow_add-base
overflow_add-base c = omega (arith, c.loop-j.invariant.1, row-ends _ _ _ _ _ c.rows_of-first.ensures c.requires _ c.loop-j-test.true, c.well_formed)

pub overflow_add-j-end : goal.overflow_add-j-end
overflow_add-j-end c = let last : c.rows_of-first.result.1 < c.args.g.ny = last_within _ _ _ _ c.rows_of-first.ensures c.requires.sides.high in omega arith

pub loop-j-init : goal.loop-j-init
loop-j-init c = (going_none _ _ _ _, refl)

pub cells_of-from-requires : goal.cells_of-from-requires
cells_of-from-requires c = inside_mono _ _ _ _ (omega arith) (inside (goal.at.cells_of-from-requires c).After-chord)

pub slice_bounds-clear-count : goal.slice_bounds-clear-count
slice_bounds-clear-count c = omega (arith, cells-lie _ _ _ _ c.cells_of-from.ensures (inside (goal.at.slice_bounds-clear-count c).After-chord))

pub slice_bounds-clear-start : goal.slice_bounds-clear-start
slice_bounds-clear-start c = omega (arith, cells-lie _ _ _ _ c.cells_of-from.ensures (inside (goal.at.slice_bounds-clear-start c).After-chord))

pub slice_bounds-clear-end : goal.slice_bounds-clear-end
slice_bounds-clear-end c = omega (arith, cells-lie _ _ _ _ c.cells_of-from.ensures (inside (goal.at.slice_bounds-clear-end c).After-chord))

pub overflow_add-n : goal.overflow_add-n
overflow_add-n c =
    let e = span-cleared _ _ _ _ _ _ _ (inside (goal.at.overflow_add-n c).After-chord) c.cells_of-from.ensures c.clear-n.ensures in
    let left = going_rows_left _ _ _ _ _ _ _ _ (going_more _ _ _ _ _ _ _ c.loop-j.invariant.0 c.loop-j-test.true (disk-row-is _ _ _ c.args.r _ _ _ _ _ c.loop-j.invariant.1 c.chord.ensures e)) in
    omega (arith, left.long, (fair_left _ _ (fair_none c.args.map.now) left).most, c.well_formed)

pub loop-j-preserved : goal.loop-j-preserved
loop-j-preserved c =
    let e = span-cleared _ _ _ _ _ _ _ (inside (goal.at.loop-j-preserved c).After-chord) c.cells_of-from.ensures c.clear-n.ensures in
    (going_more _ _ _ _ _ _ _ c.loop-j.invariant.0 c.loop-j-test.true (disk-row-is _ _ _ c.args.r _ _ _ _ _ c.loop-j.invariant.1 c.chord.ensures e), next_base _ _ _ c.loop-j.invariant.1)

pub returns : goal.returns
unfolding clear_disk
returns c = disk-is _ _ _ _ _ _ _ c.rows_of-first.ensures (going_end _ _ _ _ _ _ c.loop-j.invariant.0 c.loop-j-test.false)
