-- `plan::parts::enter` meets its contract. Assumes nothing.
use Rattle.std.proofs.lemmas.Result.{err_from_is_err_and}
use Rattle.plan.proofs.PartsLaws.{places-sum, helix-answer, helix-full, helix_asks, helix_part_lem}
use Rattle.plan.proofs.parts.enter.Goals as goal

pub after_helix-requires : goal.after_helix-requires
after_helix-requires c = places-sum c.args.p _ _ c.in_ok-entered.was (helix_asks c.args.s c.args.vs.now c.args.lens.now c.args.p c.args.b.now c.args.u.now c.args.f.now c.args.w.now c.args.triples.now c.args.rows.now c.requires.standing c.requires.listed c.args.pref _ c.enter.new.u _ _ _ c.enter.ensures.result_after c.requires.given_bound)

pub returns-in_err-entered : goal.returns-in_err-entered
returns-in_err-entered c =
    let p = err_from_is_err_and c.from_residual.result c.from_residual.ensures.1 in
    let r = helix_part_lem c.args.s c.args.vs.now c.args.lens.now c.args.p c.args.b.now c.args.u.now c.args.f.now c.args.w.now c.args.triples.now c.args.rows.now c.requires.standing c.requires.listed c.args.pref _ _ _ _ _ c.enter.ensures.result_after c.enter.ensures.settled c.enter.ensures.only _ (helix-full _ _ _ c.in_err-entered.was) in
    rw (p.1, p.2) (record { result_after = r.0; kept = r.1 })

pub returns : goal.returns
returns c =
    let r = helix_part_lem c.args.s c.args.vs.now c.args.lens.now c.args.p c.args.b.now c.args.u.now c.args.f.now c.args.w.now c.args.triples.now c.args.rows.now c.requires.standing c.requires.listed c.args.pref _ _ _ _ _ c.enter.ensures.result_after c.enter.ensures.settled c.enter.ensures.only _ (helix-answer _ _ _ _ c.in_ok-entered.was c.after_helix.ensures) in
    record { result_after = r.0; kept = r.1 }
