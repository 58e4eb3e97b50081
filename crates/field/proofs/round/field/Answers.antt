-- `field::round::field` meets its contract. Assumes nothing.
use native.Mathlib.Omega.{arith}
use Rattle.field.proofs.DoneLaws.{gauge_ready, rows-ask, done_by}
use Rattle.field.proofs.round.field.Goals as goal

pub wanted_window-x-requires : goal.wanted_window-x-requires
wanted_window-x-requires c = let p = c.requires in
    let q = c.gauge_of-g in
    let g = q.ensures in
    let r = gauge_ready q.result _ _ g.0 g.1 _ _ _ _ p in record { sides = r.sides; setup_in_bounds = omega (arith, r.lent.bytes) }

pub measure-requires : goal.measure-requires
measure-requires c = let p = c.requires in
    let q = c.gauge_of-g in
    let g = q.ensures in
    let r = gauge_ready q.result _ _ g.0 g.1 _ _ _ _ p in record { sides = r.sides; setup_in_bounds = omega (arith, r.lent.bytes); setup_in_bounds_2 = omega (arith, r.lent.words); wanted_in = c.wanted_window-x.ensures }

pub clear_dirty-requires : goal.clear_dirty-requires
clear_dirty-requires c = let p = c.requires in record { sides = p.sides; nx_in_bounds = omega (arith, p.lent.bytes) }

pub rows-requires : goal.rows-requires
rows-requires c = let q = c.gauge_of-g in
    let g = q.ensures in
    let w = c.wanted_window-x.ensures in record { ready = rows-ask q.result _ _ g.0 g.1 _ _ _ _ c.requires _ c.wanted_window-x.ensures _ c.measure.ensures _ c.begin.ensures _ c.clear_dirty.ensures; left_le_nx = omega (arith, w.columns.order, w.columns.high) }

pub returns : goal.returns
returns c = let q = c.gauge_of-g in
    let g = q.ensures in
    done_by q.result _ _ g.0 g.1 _ _ _ _ c.requires _ c.wanted_window-x.ensures _ c.measure.ensures _ c.begin.ensures _ c.clear_dirty.ensures _ _ c.rows.ensures
