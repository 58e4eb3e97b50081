-- `plan::turns::plan` meets its contract. Assumes nothing.
use mathlib.Core.Path.{ap, ◌∙◌}
use Rattle.std.specs.Prelude.{Ok}
use Rattle.std.proofs.lemmas.Result.{err_from_is_err_and}
use native.Mathlib.Omega.{arith}
use Rattle.plan.proofs.TurnsLaws.{planning_none, round_asked, plan_spent, plan_ends, planning_more, plan_next, plan_done, plan_refused}
use Rattle.plan.proofs.turns.plan.Goals as goal

pub loop-k-init : goal.loop-k-init
loop-k-init c = planning_none c.args.s c.args.vs.now c.args.lens.now c.args.pref c.args.b.now c.args.u.now c.args.f.now c.args.w.now c.args.triples.now c.args.rows.now c.requires.standing c.requires.listed c.first-p.result c.first-p.ensures

pub shape_of-b-then-p-gt-MAX_WORK : goal.shape_of-b-then-p-gt-MAX_WORK
shape_of-b-then-p-gt-MAX_WORK c = c.loop-k.invariant.kept.cells.long

pub shape_of-u-then-p-gt-MAX_WORK : goal.shape_of-u-then-p-gt-MAX_WORK
shape_of-u-then-p-gt-MAX_WORK c = c.loop-k.invariant.kept.words_long

pub shape_of-f-then-p-gt-MAX_WORK : goal.shape_of-f-then-p-gt-MAX_WORK
shape_of-f-then-p-gt-MAX_WORK c = c.loop-k.invariant.kept.singles-long

pub shape_of-w-then-p-gt-MAX_WORK : goal.shape_of-w-then-p-gt-MAX_WORK
shape_of-w-then-p-gt-MAX_WORK c = c.loop-k.invariant.kept.walls.long

pub shape_of-triples-then-p-gt-MAX_WORK : goal.shape_of-triples-then-p-gt-MAX_WORK
shape_of-triples-then-p-gt-MAX_WORK c = c.loop-k.invariant.kept.out-long

pub shape_of-rows-then-p-gt-MAX_WORK : goal.shape_of-rows-then-p-gt-MAX_WORK
shape_of-rows-then-p-gt-MAX_WORK c = c.loop-k.invariant.kept.rows_long

pub returns-then-p-gt-MAX_WORK : goal.returns-then-p-gt-MAX_WORK
returns-then-p-gt-MAX_WORK c =
    let r = plan_spent c.args.s c.args.vs.now c.args.lens.now c.args.pref c.args.b.now c.args.u.now c.args.f.now c.args.w.now c.args.triples.now c.args.rows.now c.requires.standing c.loop-k.b c.loop-k.u c.loop-k.f c.loop-k.w c.loop-k.triples c.loop-k.rows c.loop-k.p c.loop-k.k c.loop-k.invariant c.loop-k-test.true c.if-p-gt-MAX_WORK.true in
    record { result_after = r.0; end_kept = r.1 }

pub round-requires : goal.round-requires
round-requires c =
    let r = round_asked c.args.s c.args.vs.now c.args.lens.now c.args.pref c.args.b.now c.args.u.now c.args.f.now c.args.w.now c.args.triples.now c.args.rows.now c.requires.standing c.loop-k.b c.loop-k.u c.loop-k.f c.loop-k.w c.loop-k.triples c.loop-k.rows c.loop-k.p c.loop-k.k c.loop-k.invariant c.requires.s_in_bounds c.loop-k-test.true in
    record { standing = r.0; s_in_bounds = r.1.0; listed = r.1.1.0; given_bound = r.1.1.1 }

pub shape_of-b-in-Next : goal.shape_of-b-in-Next
shape_of-b-in-Next c = c.round.ensures.kept.cells.long ∙ c.loop-k.invariant.kept.cells.long

pub shape_of-u-in-Next : goal.shape_of-u-in-Next
shape_of-u-in-Next c = c.round.ensures.kept.words_long ∙ c.loop-k.invariant.kept.words_long

pub shape_of-f-in-Next : goal.shape_of-f-in-Next
shape_of-f-in-Next c = c.round.ensures.kept.singles-long ∙ c.loop-k.invariant.kept.singles-long

pub shape_of-w-in-Next : goal.shape_of-w-in-Next
shape_of-w-in-Next c = c.round.ensures.kept.walls.long ∙ c.loop-k.invariant.kept.walls.long

pub shape_of-triples-in-Next : goal.shape_of-triples-in-Next
shape_of-triples-in-Next c = c.round.ensures.kept.out-long ∙ c.loop-k.invariant.kept.out-long

pub shape_of-rows-in-Next : goal.shape_of-rows-in-Next
shape_of-rows-in-Next c = c.round.ensures.kept.rows_long ∙ c.loop-k.invariant.kept.rows_long

pub returns-in-Next : goal.returns-in-Next
returns-in-Next c =
    let r = plan_next c.args.s c.args.vs.now c.args.lens.now c.args.pref c.args.b.now c.args.u.now c.args.f.now c.args.w.now c.args.triples.now c.args.rows.now c.requires.standing c.loop-k.b c.loop-k.u c.loop-k.f c.loop-k.w c.loop-k.triples c.loop-k.rows c.loop-k.p c.loop-k.k c.loop-k.invariant c.loop-k-test.true c.if-p-gt-MAX_WORK.false _ _ _ _ _ _ _ c.round.ensures.result_after c.round.ensures.kept _ (c.in_ok-a.was ∙ ap Ok c.in-Next.is) in
    record { result_after = r.0; end_kept = r.1 }

pub shape_of-b-in-Done : goal.shape_of-b-in-Done
shape_of-b-in-Done c = c.round.ensures.kept.cells.long ∙ c.loop-k.invariant.kept.cells.long

pub shape_of-u-in-Done : goal.shape_of-u-in-Done
shape_of-u-in-Done c = c.round.ensures.kept.words_long ∙ c.loop-k.invariant.kept.words_long

pub shape_of-f-in-Done : goal.shape_of-f-in-Done
shape_of-f-in-Done c = c.round.ensures.kept.singles-long ∙ c.loop-k.invariant.kept.singles-long

pub shape_of-w-in-Done : goal.shape_of-w-in-Done
shape_of-w-in-Done c = c.round.ensures.kept.walls.long ∙ c.loop-k.invariant.kept.walls.long

pub shape_of-triples-in-Done : goal.shape_of-triples-in-Done
shape_of-triples-in-Done c = c.round.ensures.kept.out-long ∙ c.loop-k.invariant.kept.out-long

pub shape_of-rows-in-Done : goal.shape_of-rows-in-Done
shape_of-rows-in-Done c = c.round.ensures.kept.rows_long ∙ c.loop-k.invariant.kept.rows_long

pub returns-in-Done : goal.returns-in-Done
returns-in-Done c =
    let r = plan_done c.args.s c.args.vs.now c.args.lens.now c.args.pref c.args.b.now c.args.u.now c.args.f.now c.args.w.now c.args.triples.now c.args.rows.now c.requires.standing c.loop-k.b c.loop-k.u c.loop-k.f c.loop-k.w c.loop-k.triples c.loop-k.rows c.loop-k.p c.loop-k.k c.loop-k.invariant c.loop-k-test.true c.if-p-gt-MAX_WORK.false _ _ _ _ _ _ _ c.round.ensures.result_after c.round.ensures.kept _ (c.in_ok-a.was ∙ ap Ok c.in-Done.is) in
    record { result_after = r.0; end_kept = r.1 }

pub shape_of-b-in_err-a : goal.shape_of-b-in_err-a
shape_of-b-in_err-a c = c.round.ensures.kept.cells.long ∙ c.loop-k.invariant.kept.cells.long

pub shape_of-u-in_err-a : goal.shape_of-u-in_err-a
shape_of-u-in_err-a c = c.round.ensures.kept.words_long ∙ c.loop-k.invariant.kept.words_long

pub shape_of-f-in_err-a : goal.shape_of-f-in_err-a
shape_of-f-in_err-a c = c.round.ensures.kept.singles-long ∙ c.loop-k.invariant.kept.singles-long

pub shape_of-w-in_err-a : goal.shape_of-w-in_err-a
shape_of-w-in_err-a c = c.round.ensures.kept.walls.long ∙ c.loop-k.invariant.kept.walls.long

pub shape_of-triples-in_err-a : goal.shape_of-triples-in_err-a
shape_of-triples-in_err-a c = c.round.ensures.kept.out-long ∙ c.loop-k.invariant.kept.out-long

pub shape_of-rows-in_err-a : goal.shape_of-rows-in_err-a
shape_of-rows-in_err-a c = c.round.ensures.kept.rows_long ∙ c.loop-k.invariant.kept.rows_long

pub returns-in_err-a : goal.returns-in_err-a
returns-in_err-a c =
    let r = plan_refused c.args.s c.args.vs.now c.args.lens.now c.args.pref c.args.b.now c.args.u.now c.args.f.now c.args.w.now c.args.triples.now c.args.rows.now c.requires.standing c.loop-k.b c.loop-k.u c.loop-k.f c.loop-k.w c.loop-k.triples c.loop-k.rows c.loop-k.p c.loop-k.k c.loop-k.invariant c.loop-k-test.true c.if-p-gt-MAX_WORK.false _ _ _ _ _ _ _ c.round.ensures.result_after c.round.ensures.kept _ c.in_err-a.was in
    let p = err_from_is_err_and c.from_residual.result c.from_residual.ensures.1 in
    rw (p.1, p.2) (record { result_after = r.0; end_kept = r.1 })

pub overflow_step-k : goal.overflow_step-k
overflow_step-k c = omega (arith, c.loop-k-test.true)

pub loop-k-smaller : goal.loop-k-smaller
loop-k-smaller c = omega (arith, c.loop-k-test.true)

pub loop-k-preserved : goal.loop-k-preserved
loop-k-preserved c = planning_more c.args.s c.args.vs.now c.args.lens.now c.args.pref c.args.b.now c.args.u.now c.args.f.now c.args.w.now c.args.triples.now c.args.rows.now c.requires.standing c.loop-k.b c.loop-k.u c.loop-k.f c.loop-k.w c.loop-k.triples c.loop-k.rows c.loop-k.p c.loop-k.k c.loop-k.invariant c.loop-k-test.true c.if-p-gt-MAX_WORK.false _ _ _ _ _ _ _ c.round.ensures.result_after c.round.ensures.kept _ (c.in_ok-a.was ∙ ap Ok c.in-Again.is)

pub shape_of-b : goal.shape_of-b
shape_of-b c = c.loop-k.invariant.kept.cells.long

pub shape_of-u : goal.shape_of-u
shape_of-u c = c.loop-k.invariant.kept.words_long

pub shape_of-f : goal.shape_of-f
shape_of-f c = c.loop-k.invariant.kept.singles-long

pub shape_of-w : goal.shape_of-w
shape_of-w c = c.loop-k.invariant.kept.walls.long

pub shape_of-triples : goal.shape_of-triples
shape_of-triples c = c.loop-k.invariant.kept.out-long

pub shape_of-rows : goal.shape_of-rows
shape_of-rows c = c.loop-k.invariant.kept.rows_long

pub returns : goal.returns
returns c =
    let r = plan_ends c.args.s c.args.vs.now c.args.lens.now c.args.pref c.args.b.now c.args.u.now c.args.f.now c.args.w.now c.args.triples.now c.args.rows.now c.requires.standing c.loop-k.b c.loop-k.u c.loop-k.f c.loop-k.w c.loop-k.triples c.loop-k.rows c.loop-k.p c.loop-k.k c.loop-k.invariant c.loop-k-test.false in
    record { result_after = r.0; end_kept = r.1 }
