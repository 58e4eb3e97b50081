-- `helix::enter::enter` meets its contract. Assumes nothing.
use Rattle.helix.proofs.EnterLaws.{find_asks, bore_asks, enter_none, enter_bored}
use Rattle.helix.proofs.enter.enter.Goals as goal

pub find-found-requires : goal.find-found-requires
find-found-requires c =
    let r = find_asks c.args.s c.args.t c.args.vs.now c.args.lens.now c.args.pref c.args.b.now c.args.u.now c.args.w.now c.args.triples.now c.args.rows.now c.requires.standing _ c.before-2.ensures _ c.segments-end.ensures in
    record { walls = r.0; s_in_bounds = r.1.0; s_in_bounds_2 = r.1.1 }

pub bore-requires : goal.bore-requires
bore-requires c =
    let r = bore_asks c.args.s c.args.t c.args.vs.now c.args.lens.now c.args.pref c.args.b.now c.args.u.now c.args.w.now c.args.triples.now c.args.rows.now c.requires.standing _ c.before-2.ensures _ c.segments-end.ensures _ c.find-found.ensures.value _ c.find-found.ensures.b_after c.requires.listed in
    record { sides = r.0; s_in_bounds = r.1.0; listed = r.1.1 }

pub returns-in_default : goal.returns-in_default
returns-in_default c =
    let r = enter_none c.args.s c.args.t c.args.vs.now c.args.lens.now c.args.pref c.args.b.now c.args.u.now c.args.w.now c.args.triples.now c.args.rows.now c.requires.standing _ c.before-2.ensures _ c.segments-end.ensures _ c.find-found.ensures.value _ c.find-found.ensures.b_after c.find-found.new.stack c.u-1.given.0 c.in_default.is in
    record { result_after = r.0; settled = r.1.0; only = r.1.1 }

pub returns : goal.returns
returns c =
    let r = enter_bored c.args.s c.args.t c.args.vs.now c.args.lens.now c.args.pref c.args.b.now c.args.u.now c.args.w.now c.args.triples.now c.args.rows.now c.requires.standing _ c.before-2.ensures _ c.segments-end.ensures _ c.find-found.ensures.value _ c.find-found.ensures.b_after c.find-found.new.stack c.u-1.given.0 _ c.in-Some.is _ _ _ _ c.bore.ensures.result_after c.bore.ensures.only in
    record { result_after = r.0; settled = r.1.0; only = r.1.1 }
