-- `rounds::round::cut_next` meets its contract. Assumes nothing.
use Rattle.std.proofs.lemmas.Result.{err_from_is_err_and}
use Rattle.rounds.proofs.RoundLaws.{answer_ok, answer-full, cut_asks, cut-next-is}
use Rattle.rounds.proofs.round.cut_next.Goals as goal

pub cut_piece-requires : goal.cut_piece-requires
cut_piece-requires c =
    let r = cut_asks _ _ _ _ _ _ c.requires.standing _ c.requires.traced _ c.traced.ensures _ _ _ c.requires.listed in
    record { fitted = r.0; lends = r.1.0; among = r.1.1.0; listed = r.1.1.1 }

pub returns-in_err-c : goal.returns-in_err-c
returns-in_err-c c =
    let p = err_from_is_err_and c.from_residual.result c.from_residual.ensures.1 in
    rw (p.1, p.2) (record { result_after = cut-next-is _ _ _ _ _ _ c.requires.standing _ c.requires.traced _ c.traced.ensures _ _ _ _ _ _ _ _ _ _ c.cut_piece.ensures.result_after (answer-full _ _ _ c.in_err-c.was); settled = c.cut_piece.ensures.settled; behind = c.cut_piece.ensures.behind; only = c.cut_piece.ensures.only })

pub returns : goal.returns
returns c = record { result_after = cut-next-is _ _ _ _ _ _ c.requires.standing _ c.requires.traced _ c.traced.ensures _ _ _ _ _ _ _ _ _ _ c.cut_piece.ensures.result_after (answer_ok _ _ _ c.in_ok-c.was _ c.after.ensures); settled = c.cut_piece.ensures.settled; behind = c.cut_piece.ensures.behind; only = c.cut_piece.ensures.only }
