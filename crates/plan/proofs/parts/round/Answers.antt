-- `plan::parts::round` meets its contract. Assumes nothing.
use mathlib.Core.Path.{ap, ◌∙◌}
use Rattle.std.specs.Prelude.{Ok}
use Rattle.std.proofs.lemmas.Result.{err_from_is_err_and}
use Rattle.plan.proofs.PartsLaws.{round_leaves, round_asks, round_goes_on}
use borrow.Enum.Refused.{opened}
use Rattle.plan.proofs.parts.round.Goals as goal

pub cut_pieces-requires : goal.cut_pieces-requires
cut_pieces-requires c = record { standing = c.requires.standing; s_in_bounds = c.requires.s_in_bounds; listed = c.requires.listed }

pub returns-in_err-a : goal.returns-in_err-a
returns-in_err-a c =
    let p = err_from_is_err_and c.from_residual.result c.from_residual.ensures.1 in
    let r = round_leaves c.args.s c.args.vs.now c.args.lens.now c.args.pref c.args.p c.args.b.now c.args.u.now c.args.f.now c.args.w.now c.args.triples.now c.args.rows.now c.requires.standing c.requires.s_in_bounds _ _ _ _ _ _ _ c.cut_pieces.ensures.kept (c.cut_pieces.ensures.result_after c.args.pref) _ c.in_err-a.was tt in
    rw (p.1, p.2) (record { result_after = r.0; kept = r.1 })

pub returns-in_default : goal.returns-in_default
returns-in_default c =
    let r = round_leaves c.args.s c.args.vs.now c.args.lens.now c.args.pref c.args.p c.args.b.now c.args.u.now c.args.f.now c.args.w.now c.args.triples.now c.args.rows.now c.requires.standing c.requires.s_in_bounds _ _ _ _ _ _ _ c.cut_pieces.ensures.kept (c.cut_pieces.ensures.result_after c.args.pref) _ c.in_ok-a.was (opened c.in_default.in_default-own.keys2) in
    record { result_after = r.0; kept = r.1 }

pub rest-requires : goal.rest-requires
rest-requires c =
    let r = round_asks c.args.s c.args.vs.now c.args.lens.now c.args.pref c.args.p c.args.b.now c.args.u.now c.args.f.now c.args.w.now c.args.triples.now c.args.rows.now c.requires.standing c.requires.s_in_bounds _ _ _ _ _ _ _ c.cut_pieces.ensures.kept (c.cut_pieces.ensures.result_after c.args.pref) _ (c.in_ok-a.was ∙ ap Ok c.in-Next.is) c.requires.given_bound in
    record { standing = r.0; s_in_bounds = r.1.0; listed = r.1.1.0; given_bound = r.1.1.1 }

pub shape_of-b : goal.shape_of-b
shape_of-b c = c.rest.ensures.kept.cells.long ∙ c.cut_pieces.ensures.kept.cells.long

pub shape_of-u : goal.shape_of-u
shape_of-u c = c.rest.ensures.kept.words_long ∙ c.cut_pieces.ensures.kept.words_long

pub returns : goal.returns
returns c =
    let r = round_goes_on c.args.s c.args.vs.now c.args.lens.now c.args.pref c.args.p c.args.b.now c.args.u.now c.args.f.now c.args.w.now c.args.triples.now c.args.rows.now c.requires.standing c.requires.s_in_bounds _ _ _ _ _ _ _ c.cut_pieces.ensures.kept (c.cut_pieces.ensures.result_after c.args.pref) _ (c.in_ok-a.was ∙ ap Ok c.in-Next.is) _ _ _ _ _ _ _ c.rest.ensures.result_after c.rest.ensures.kept in
    record { result_after = r.0; kept = r.1 }
