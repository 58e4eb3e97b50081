-- `plan::parts::cut_pieces` meets its contract. Assumes nothing.
use Rattle.std.proofs.lemmas.Result.{err_from_is_err_and}
use Rattle.plan.proofs.PartsLaws.{pieces-answer, pieces-full, pieces-ask, pieces_part_lem}
use Rattle.plan.proofs.parts.cut_pieces.Goals as goal

pub cut_pieces-requires : goal.cut_pieces-requires
cut_pieces-requires c =
    let r = pieces-ask c.args.s c.args.vs.now c.args.lens.now c.args.p c.args.b.now c.args.u.now c.args.f.now c.args.w.now c.args.triples.now c.args.rows.now c.requires.standing c.requires.listed _ _ _ _ _ c.trace_round-q.ensures _ c.spend.ensures in
    record { standing = r.0; lying = r.1.0; listed = r.1.1 }

pub returns-in_err-state : goal.returns-in_err-state
returns-in_err-state c =
    let p = err_from_is_err_and c.from_residual.result c.from_residual.ensures.1 in
    let r = pieces_part_lem c.args.s c.args.vs.now c.args.lens.now c.args.p c.args.b.now c.args.u.now c.args.f.now c.args.w.now c.args.triples.now c.args.rows.now c.requires.standing c.requires.listed _ _ _ _ _ c.trace_round-q.ensures _ c.spend.ensures _ _ _ _ _ _ c.cut_pieces.ensures.result_after c.cut_pieces.ensures.cells_kept c.cut_pieces.ensures.b_unchanged c.cut_pieces.ensures.u_len_unchanged c.cut_pieces.ensures.only c.cut_pieces.ensures.lists _ (pieces-full _ _ _ c.in_err-state.was) in
    rw (p.1, p.2) (record { result_after = r.0; kept = r.1 })

pub returns : goal.returns
returns c =
    let r = pieces_part_lem c.args.s c.args.vs.now c.args.lens.now c.args.p c.args.b.now c.args.u.now c.args.f.now c.args.w.now c.args.triples.now c.args.rows.now c.requires.standing c.requires.listed _ _ _ _ _ c.trace_round-q.ensures _ c.spend.ensures _ _ _ _ _ _ c.cut_pieces.ensures.result_after c.cut_pieces.ensures.cells_kept c.cut_pieces.ensures.b_unchanged c.cut_pieces.ensures.u_len_unchanged c.cut_pieces.ensures.only c.cut_pieces.ensures.lists _ (pieces-answer _ _ _ _ c.in_ok-state.was c.after_pieces.ensures) in
    record { result_after = r.0; kept = r.1 }
