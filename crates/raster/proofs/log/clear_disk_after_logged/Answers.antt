-- `raster::log::clear_disk_after_logged` meets its contract. The invariant: the map, the log and the count are what the rows so far leave, and the next row begins at cell `base`. Assumes nothing.
use mathlib.Core.Path.{refl, sym, subst}
use Prim.Native.Nat.{◌<◌}
use native.Mathlib.Omega.{arith}
use Rattle.raster.specs.Log.{clear_after}
use Rattle.loops.proofs.LoopLaws.{going_none, going_more, going_end}
use Rattle.raster.proofs.RowLaws.{BothIn, chord_in, less_in, in_map, row-on, row-ends, next_base, last_within}
use Rattle.raster.proofs.SweepLaws.{crescent-row-is, crescent-is}
use Rattle.raster.proofs.LogLaws.{ready-kept, going_rows, le_same}
use Rattle.raster.proofs.log.clear_disk_after_logged.Goals as goal
use Rattle.raster.proofs.log.clear_disk_after_logged.Goals.{After-crescent_row}

both : (c : After-crescent_row) → BothIn c.args.g.nx c.crescent_row.result
both c = subst (BothIn c.args.g.nx) (sym c.crescent_row.ensures) (less_in _ _ _ (chord_in _ _ _ _ c.requires.over.sides))

pub returns-then-last-first : goal.returns-then-last-first
unfolding clear_after
returns-then-last-first c = crescent-is _ _ _ _ _ _ _ _ c.rows_of-first.ensures (going_end _ _ _ _ _ _ (going_none _ _ _ _) (omega (arith, c.if-last-first.true)))

pub overflow_mul-base : goal.overflow_mul-base
overflow_mul-base c = omega (arith, row-ends _ _ _ _ _ c.rows_of-first.ensures c.requires.over c.rows_of-first.result.0 (omega (arith, c.if-last-first.false)), c.well_formed)

pub overflow_add-y-end : goal.overflow_add-y-end
overflow_add-y-end c = let last : c.rows_of-first.result.1 < c.args.g.ny = last_within _ _ _ _ c.rows_of-first.ensures c.requires.over.sides.high in omega arith

pub loop-y-init : goal.loop-y-init
loop-y-init c = (going_none _ _ _ _, refl)

pub clear_columns-n-requires : goal.clear_columns-n-requires
clear_columns-n-requires c =
    let p = c.requires in
    let g = c.args.g in
    let at = c.loop-y.invariant in
    let kept = going_rows _ _ _ _ _ _ _ _ _ p.ready at.0 in
    let long = le_same p.over.long kept.cells-long in
    let on = row-on _ _ _ _ _ c.rows_of-first.ensures p.over _ c.loop-y-test.true in
    let b = both (goal.at.clear_columns-n-requires c).After-crescent_row in record { left = in_map _ g.ny g.nx _ _ at.1 on long c.crescent_row.result.left b.0; right = in_map _ g.ny g.nx _ _ at.1 on long c.crescent_row.result.right b.1; ready = ready-kept _ _ p.ready kept }

pub overflow_add-base : goal.overflow_add-base
overflow_add-base c = omega (arith, c.loop-y.invariant.1, row-ends _ _ _ _ _ c.rows_of-first.ensures c.requires.over _ c.loop-y-test.true, c.well_formed)

pub loop-y-preserved : goal.loop-y-preserved
loop-y-preserved c = let at = c.loop-y.invariant in (
  going_more _ _ _ _ _ _ _ at.0 c.loop-y-test.true (crescent-row-is _ _ _ _ c.args.r _ _ _ _ _ _ at.1 c.crescent_row.ensures refl c.clear_columns-n.ensures),
  next_base _ _ _ at.1,
)

pub returns : goal.returns
unfolding clear_after
returns c = crescent-is _ _ _ _ _ _ _ _ c.rows_of-first.ensures (going_end _ _ _ _ _ _ c.loop-y.invariant.0 c.loop-y-test.false)
