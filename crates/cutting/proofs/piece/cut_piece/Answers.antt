-- `cutting::piece::cut_piece` meets its contract. Assumes nothing.
use Rattle.cutting.proofs.PieceLaws.{try_asks, cut-refused, cut-nothing, go_asks, cut-kept}
use Rattle.cutting.proofs.piece.cut_piece.Goals as goal

pub try_piece-a-requires : goal.try_piece-a-requires
try_piece-a-requires c =
    let r = try_asks _ _ _ _ _ _ _ _ _ _ _ c.args.closed c.requires.fitted c.requires.lends c.requires.among c.requires.listed _ c.log-log.ensures in
    record { fitted = r.0; ready = r.1.0; among = r.1.1 }

pub go_and_keep-requires : goal.go_and_keep-requires
go_and_keep-requires c =
    let r = go_asks _ _ _ _ _ _ _ _ _ _ _ _ c.requires.fitted c.requires.lends c.requires.among c.requires.listed _ c.log-log.ensures _ _ _ _ _ c.try_piece-a.ensures.map_unchanged c.try_piece-a.ensures.only c.try_piece-a.ensures.result_after _ _ _ c.in-Worth.is _ c.spend.ensures in
    record { fitted = r.0; lends = r.1.0; logged = r.1.1.0; listed = r.1.1.1.0; le_n = r.1.1.1.1 }

pub returns-in-Full : goal.returns-in-Full
returns-in-Full c =
    let r = cut-refused _ _ _ _ _ _ _ _ _ _ _ _ c.requires.fitted c.requires.lends c.requires.among c.requires.listed _ c.log-log.ensures _ _ _ _ _ c.try_piece-a.ensures.map_unchanged c.try_piece-a.ensures.only c.try_piece-a.ensures.result_after c.in-Full.is in
    record { result_after = r.0; settled = r.1.0; behind = r.1.1.0; only = r.1.1.1 }

pub returns-in-Worth : goal.returns-in-Worth
returns-in-Worth c =
    let r = cut-kept _ _ _ _ _ _ _ _ _ _ _ _ c.requires.fitted c.requires.lends c.requires.among c.requires.listed _ c.log-log.ensures _ _ _ _ _ c.try_piece-a.ensures.map_unchanged c.try_piece-a.ensures.only c.try_piece-a.ensures.result_after _ _ _ c.in-Worth.is _ c.spend.ensures _ _ _ _ _ _ c.go_and_keep.ensures.result_after c.go_and_keep.ensures.settled c.go_and_keep.ensures.only c.go_and_keep.ensures.only_2 in
    record { result_after = r.0; settled = r.1.0; behind = r.1.1.0; only = r.1.1.1 }

pub shape_of-b-in-Worth : goal.shape_of-b-in-Worth
shape_of-b-in-Worth c = (returns-in-Worth c).settled.long

pub returns-in-Nothing : goal.returns-in-Nothing
returns-in-Nothing c =
    let r = cut-nothing _ _ _ _ _ _ _ _ _ _ _ _ c.requires.fitted c.requires.lends c.requires.among c.requires.listed _ c.log-log.ensures _ _ _ _ _ c.try_piece-a.ensures.map_unchanged c.try_piece-a.ensures.only c.try_piece-a.ensures.result_after _ c.in-Nothing.is _ c.spend-in-Nothing.ensures in
    record { result_after = r.0; settled = r.1.0; behind = r.1.1.0; only = r.1.1.1 }
