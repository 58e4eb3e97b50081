-- `plan::parts::rest` meets its contract. Assumes nothing.
use mathlib.Core.Path.{ap, ◌∙◌}
use Rattle.std.specs.Prelude.{Ok}
use Rattle.std.proofs.lemmas.Result.{err_from_is_err_and}
use Rattle.plan.proofs.PartsLaws.{rest_leaves, rest_asks, rest_goes_on}
use borrow.Enum.Refused.{opened}
use Rattle.plan.proofs.parts.rest.Goals as goal

pub cut_ring-requires : goal.cut_ring-requires
cut_ring-requires c = record { standing = c.requires.standing; s_in_bounds = c.requires.s_in_bounds; listed = c.requires.listed }

pub returns-in_err-a : goal.returns-in_err-a
returns-in_err-a c =
    let p = err_from_is_err_and c.from_residual.result c.from_residual.ensures.1 in
    let r = rest_leaves c.args.s c.args.vs.now c.args.lens.now c.args.pref c.args.p c.args.b.now c.args.u.now c.args.f.now c.args.w.now c.args.triples.now c.args.rows.now c.requires.standing c.requires.s_in_bounds _ _ _ _ _ _ _ c.cut_ring.ensures.kept (c.cut_ring.ensures.result_after c.args.pref) _ c.in_err-a.was tt in
    rw (p.1, p.2) (record { result_after = r.0; kept = r.1 })

pub returns-in_default : goal.returns-in_default
returns-in_default c =
    let r = rest_leaves c.args.s c.args.vs.now c.args.lens.now c.args.pref c.args.p c.args.b.now c.args.u.now c.args.f.now c.args.w.now c.args.triples.now c.args.rows.now c.requires.standing c.requires.s_in_bounds _ _ _ _ _ _ _ c.cut_ring.ensures.kept (c.cut_ring.ensures.result_after c.args.pref) _ c.in_ok-a.was (opened c.in_default.in_default-own.keys2) in
    record { result_after = r.0; kept = r.1 }

pub enter-requires : goal.enter-requires
enter-requires c =
    let r = rest_asks c.args.s c.args.vs.now c.args.lens.now c.args.pref c.args.p c.args.b.now c.args.u.now c.args.f.now c.args.w.now c.args.triples.now c.args.rows.now c.requires.standing c.requires.s_in_bounds _ _ _ _ _ _ _ c.cut_ring.ensures.kept (c.cut_ring.ensures.result_after c.args.pref) _ (c.in_ok-a.was ∙ ap Ok c.in-Next.is) c.requires.given_bound in
    record { standing = r.0; s_in_bounds = r.1.0; listed = r.1.1.0; given_bound = r.1.1.1 }

pub shape_of-b : goal.shape_of-b
shape_of-b c = c.enter.ensures.kept.cells.long ∙ c.cut_ring.ensures.kept.cells.long

pub returns : goal.returns
returns c =
    let r = rest_goes_on c.args.s c.args.vs.now c.args.lens.now c.args.pref c.args.p c.args.b.now c.args.u.now c.args.f.now c.args.w.now c.args.triples.now c.args.rows.now c.requires.standing c.requires.s_in_bounds _ _ _ _ _ _ _ c.cut_ring.ensures.kept (c.cut_ring.ensures.result_after c.args.pref) _ (c.in_ok-a.was ∙ ap Ok c.in-Next.is) _ _ _ _ _ _ _ c.enter.ensures.result_after c.enter.ensures.kept in
    record { result_after = r.0; kept = r.1 }
