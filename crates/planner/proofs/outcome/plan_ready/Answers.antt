-- `planner::outcome::plan_ready` meets its contract. Assumes nothing.
use native.Mathlib.Omega.{arith}
use Rattle.planner.proofs.ReadyLaws.{threes_fit, threes-few, none-listed, rows-room, triples-room, listed_back, clear_asked, ready-outcome}
use Rattle.planner.proofs.outcome.plan_ready.Goals as goal

pub overflow_mul-r : goal.overflow_mul-r
overflow_mul-r c = omega (arith, threes-few _ _ c.threes-r.ensures)

pub overflow_mul-t : goal.overflow_mul-t
overflow_mul-t c = omega (arith, threes-few _ _ c.threes-t.ensures)

pub slice_bounds-plan-end : goal.slice_bounds-plan-end
slice_bounds-plan-end c = threes_fit _ _ c.threes-t.ensures

pub slice_bounds-plan-end-2 : goal.slice_bounds-plan-end-2
slice_bounds-plan-end-2 c = threes_fit _ _ c.threes-r.ensures

pub plan-e-requires : goal.plan-e-requires
plan-e-requires c = record { standing = c.requires.standing; s_in_bounds = c.requires.s_in_bounds; listed = none-listed c.args.rows.now c.args.triples.now _ _ c.threes-r.ensures c.threes-t.ensures }

pub slice_bounds-answer_of-end : goal.slice_bounds-answer_of-end
slice_bounds-answer_of-end c = rows-room c.args.p c.args.s c.args.vs.now c.args.lens.now c.args.b.now c.args.u.now c.args.f.now c.args.w.now c.args.rows.now c.args.triples.now
    c.threes-r.result c.threes-t.result c.threes-r.ensures c.threes-t.ensures _ _ _ _ _ _ c.plan-e.result c.plan-e.ensures.end_kept

pub slice_bounds-answer_of-end-2 : goal.slice_bounds-answer_of-end-2
slice_bounds-answer_of-end-2 c = triples-room c.args.p c.args.s c.args.vs.now c.args.lens.now c.args.b.now c.args.u.now c.args.f.now c.args.w.now c.args.rows.now c.args.triples.now
    c.threes-r.result c.threes-t.result c.threes-r.ensures c.threes-t.ensures _ _ _ _ _ _ c.plan-e.result c.plan-e.ensures.end_kept

pub answer_of-a-requires : goal.answer_of-a-requires
answer_of-a-requires c = record {
  sides = c.requires.standing.sides;
  s_in_bounds = omega (arith, c.requires.standing.bytes, c.plan-e.ensures.end_kept.cells.long);
  listed_end = listed_back c.args.p c.args.s c.args.vs.now c.args.lens.now c.args.b.now c.args.u.now c.args.f.now c.args.w.now c.args.rows.now c.args.triples.now
      c.threes-r.result c.threes-t.result c.threes-r.ensures c.threes-t.ensures _ _ _ _ _ _ c.plan-e.result c.plan-e.ensures.end_kept;
}

pub clear-requires : goal.clear-requires
clear-requires c =
    let r = clear_asked c.args.p c.args.s c.args.vs.now c.args.lens.now c.args.b.now c.args.u.now c.args.f.now c.args.w.now c.args.rows.now c.args.triples.now
    c.threes-r.result c.threes-t.result c.threes-r.ensures c.threes-t.ensures _ _ _ _ _ _ c.plan-e.result c.plan-e.ensures.end_kept
    c.cells-n.result c.cells-n.ensures c.answer_of-a.result c.used_by.result c.used_by.ensures c.requires.standing.bytes in
    record { cells_in_bounds = r.0; rows_in_bounds = r.1.0; triples_in_bounds = r.1.1 }

pub returns : goal.returns
returns c = ready-outcome c.args.p c.args.s c.args.vs.now c.args.lens.now c.args.b.now c.args.u.now c.args.f.now c.args.w.now c.args.rows.now c.args.triples.now
    c.threes-r.result c.threes-t.result c.threes-r.ensures c.threes-t.ensures _ _ _ _ _ _ c.plan-e.result c.plan-e.ensures.end_kept
    c.cells-n.result c.cells-n.ensures c.answer_of-a.result c.used_by.result c.used_by.ensures
    c.helix_of.result c.helix_of.ensures c.plan-e.ensures.result_after c.count-starting.result c.count-starting.ensures c.answer_of-a.ensures _ c.clear.ensures
