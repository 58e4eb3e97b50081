-- `rounds::round::cut_pieces` meets its contract. Assumes nothing.
use native.Mathlib.Omega.{arith}
use Rattle.rounds.specs.Round.{cut_pieces_of}
use Rattle.std.proofs.lemmas.Result.{err_from_is_err_and}
use Rattle.rounds.proofs.RoundLaws.{nearest-none, words-ask, nearest-taken, next_asks, cutting_stops, cutting_more, cutting_ends}
use Rattle.rounds.proofs.round.cut_pieces.Goals as goal

pub loop-i-init : goal.loop-i-init
loop-i-init c = nearest-none _ _ _ _ _ _ _ _ _ _ c.requires.standing c.requires.lying c.requires.listed

pub take_nearest-p-requires : goal.take_nearest-p-requires
take_nearest-p-requires c = let C = c.loop-i.invariant in let p = words-ask _ _ _ _ _ _ C.standing in record { n_le_most = p.0; n_in_bounds = p.1.0; n_in_bounds_2 = p.1.1; lying = C.lies.lying; le_m = omega (arith, c.loop-i-test.true) }

pub cut_next-requires : goal.cut_next-requires
cut_next-requires c =
    let r = next_asks _ _ _ _ _ _ _ _ _ _ _ _ _ _ _ _ _ _ _ _ _ c.loop-i.invariant c.loop-i-test.true _ _ _ (nearest-taken _ _ _ _ _ _ _ _ _ _ _ _ _ _ _ _ _ _ c.loop-i-test.true c.loop-i.invariant _ _ c.take_nearest-p.ensures.value c.take_nearest-p.ensures.u_after) in
    record { standing = r.0; traced = r.1.0; listed = r.1.1 }

pub returns-in_err-at : goal.returns-in_err-at
unfolding cut_pieces_of
returns-in_err-at c =
    let r = cutting_stops _ _ _ _ _ _ _ _ _ _ _ _ _ _ _ _ _ _ _ _ _ c.loop-i.invariant c.loop-i-test.true _ _ _ (nearest-taken _ _ _ _ _ _ _ _ _ _ _ _ _ _ _ _ _ _ c.loop-i-test.true c.loop-i.invariant _ _ c.take_nearest-p.ensures.value c.take_nearest-p.ensures.u_after) _ _ _ _ _ _ c.cut_next.ensures.result_after c.cut_next.ensures.settled c.cut_next.ensures.behind c.cut_next.ensures.only _ c.in_err-at.was in
    let p = err_from_is_err_and c.from_residual.result c.from_residual.ensures.1 in
    rw (p.1, p.2) (record { result_after = r.0; cells_kept = r.1.0; b_unchanged = r.1.1.0; u_len_unchanged = r.1.1.1.0; only = r.1.1.1.1.0; lists = r.1.1.1.1.1 })

pub shape_of-w-in_err-at : goal.shape_of-w-in_err-at
shape_of-w-in_err-at c = (returns-in_err-at c).only.long

pub overflow_step-i : goal.overflow_step-i
overflow_step-i c = omega (arith, c.loop-i-test.true, c.requires.lying.few, c.requires.standing.sides.cells)

pub loop-i-preserved : goal.loop-i-preserved
loop-i-preserved c = cutting_more _ _ _ _ _ _ _ _ _ _ _ _ _ _ _ _ _ _ _ _ _ c.loop-i.invariant c.loop-i-test.true _ _ _ (nearest-taken _ _ _ _ _ _ _ _ _ _ _ _ _ _ _ _ _ _ c.loop-i-test.true c.loop-i.invariant _ _ c.take_nearest-p.ensures.value c.take_nearest-p.ensures.u_after) _ _ _ _ _ _ c.cut_next.ensures.result_after c.cut_next.ensures.settled c.cut_next.ensures.behind c.cut_next.ensures.only _ _ c.in_ok-at.was

pub returns : goal.returns
unfolding cut_pieces_of
returns c =
    let r = cutting_ends _ _ _ _ _ _ _ _ _ _ _ _ _ _ _ _ _ _ _ _ _ c.loop-i.invariant c.loop-i-test.false in
    record { result_after = r.0; cells_kept = r.1.0; b_unchanged = r.1.1.0; u_len_unchanged = r.1.1.1.0; only = r.1.1.1.1.0; lists = r.1.1.1.1.1 }
