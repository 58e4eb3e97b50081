-- `planner::outcome::plan_fit` meets its contract. Assumes nothing.
use Rattle.planner.proofs.FitLaws.{ready_asks, planning_asks, fit_outcome}
use Rattle.planner.proofs.outcome.plan_fit.Goals as goal

pub make_ready-requires : goal.make_ready-requires
make_ready-requires c =
    let r = ready_asks _ _ _ _ _ c.args.b.now c.args.u.now c.args.f.now c.args.w.now c.args.rows.now c.args.triples.now _ c.requires _ c.setup_of-s.ensures in
    record { sides = r.0; all_held = r.1.0; region_value = r.1.1.0; samples_bound = r.1.1.1.0; room = r.1.1.1.1 }

pub plan_ready-requires : goal.plan_ready-requires
plan_ready-requires c =
    let r = planning_asks _ _ _ _ _ c.args.b.now c.args.u.now c.args.f.now c.args.w.now c.args.rows.now c.args.triples.now _ c.requires _ c.setup_of-s.ensures _ _ _ _ c.args.rows.now c.args.triples.now c.make_ready.ensures.f_after c.make_ready.ensures.started in
    record { standing = r.0; s_in_bounds = r.1 }

pub returns : goal.returns
returns c = fit_outcome _ _ _ _ _ _ _ _ _ _ _ _ c.requires _ c.setup_of-s.ensures _ _ _ _ _ _ c.make_ready.ensures.f_after c.make_ready.ensures.rows_after c.make_ready.ensures.triples_after c.make_ready.auto.b c.make_ready.auto.u c.make_ready.auto.w c.make_ready.ensures.started _ c.plan_ready.ensures
