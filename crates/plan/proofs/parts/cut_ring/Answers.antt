-- `plan::parts::cut_ring` meets its contract. Assumes nothing.
use Rattle.std.proofs.lemmas.Result.{err_from_is_err_and}
use Rattle.plan.proofs.PartsLaws.{ring_answer, ring_full, ring_done, ring_asks, ring_part_lem}
use Rattle.plan.proofs.parts.cut_ring.Goals as goal

pub returns-then-p : goal.returns-then-p
returns-then-p c =
    let r = ring_done c.args.s c.args.vs.now c.args.lens.now c.args.p c.args.b.now c.args.u.now c.args.f.now c.args.w.now c.args.triples.now c.args.rows.now c.requires.standing c.requires.listed c.if-p.true in
    record { result_after = r.0; kept = r.1 }

pub cut_ring-requires : goal.cut_ring-requires
cut_ring-requires c =
    let r = ring_asks c.args.s c.args.vs.now c.args.lens.now c.args.p c.args.b.now c.args.u.now c.args.f.now c.args.w.now c.args.triples.now c.args.rows.now c.requires.standing c.requires.listed _ _ _ _ _ c.trace_ring-m.ensures in
    record { standing = r.0; lying = r.1.0; listed = r.1.1 }

pub returns-in_err-state : goal.returns-in_err-state
returns-in_err-state c =
    let p = err_from_is_err_and c.from_residual.result c.from_residual.ensures.1 in
    let r = ring_part_lem c.args.s c.args.vs.now c.args.lens.now c.args.p c.args.b.now c.args.u.now c.args.f.now c.args.w.now c.args.triples.now c.args.rows.now c.requires.standing c.requires.listed _ _ _ _ _ c.trace_ring-m.ensures _ _ _ _ _ _ c.cut_ring.ensures.result_after c.cut_ring.ensures.cells_kept c.cut_ring.ensures.b_unchanged c.cut_ring.ensures.u_len_unchanged c.cut_ring.ensures.only c.cut_ring.ensures.lists _ (ring_full _ _ _ c.in_err-state.was) c.if-p.false in
    rw (p.1, p.2) (record { result_after = r.0; kept = r.1 })

pub returns : goal.returns
returns c =
    let r = ring_part_lem c.args.s c.args.vs.now c.args.lens.now c.args.p c.args.b.now c.args.u.now c.args.f.now c.args.w.now c.args.triples.now c.args.rows.now c.requires.standing c.requires.listed _ _ _ _ _ c.trace_ring-m.ensures _ _ _ _ _ _ c.cut_ring.ensures.result_after c.cut_ring.ensures.cells_kept c.cut_ring.ensures.b_unchanged c.cut_ring.ensures.u_len_unchanged c.cut_ring.ensures.only c.cut_ring.ensures.lists _ (ring_answer _ _ _ _ c.in_ok-state.was c.after_ring.ensures) c.if-p.false in
    record { result_after = r.0; kept = r.1 }
