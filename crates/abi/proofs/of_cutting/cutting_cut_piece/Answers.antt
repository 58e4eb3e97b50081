-- `abi::of_cutting::cutting_cut_piece` meets its contract. Assumes nothing.
use Rattle.abi.proofs.CutLaws.{cut_fitted, cut_lends, cut_among, cut-listed, cut_by}
use Rattle.abi.proofs.of_cutting.cutting_cut_piece.Goals as goal

pub cut_piece-c-requires : goal.cut_piece-c-requires
cut_piece-c-requires c = let m = c.passing-s.ensures in record { fitted = cut_fitted _ _ _ _ _ _ _ _ _ _ m.0 m.1 _ _ _ _ c.requires.fitted; lends = cut_lends _ _ _ _ _ _ _ _ _ _ m.0 m.1 _ _ c.requires.lends; among = cut_among _ _ _ _ _ _ _ _ _ _ m.0 m.1 _ _ c.requires.among; listed = cut-listed _ _ _ _ _ _ _ _ c.requires.listed }

pub put_cut-requires : goal.put_cut-requires
put_cut-requires c = record { in_bounds = c.requires.in_bounds; in_bounds_2 = c.requires.in_bounds_2 }

pub returns : goal.returns
returns c = let a = c.args in
    let m = c.passing-s.ensures in
    cut_by _ _ _ _ _ _ _ _ _ _ m.0 m.1 _ _ _ _ a.listed_rows a.listed_triples a.planned_max a.work a.from a.m a.closed a.b.now a.u.now a.w.now a.rows.now a.triples.now _ _ _ _ _ _ a.counts.now _ a.floats.now _ c.place.ensures c.cut_piece-c.ensures.result_after (c.put_cut.ensures.value, (c.put_cut.ensures.counts_after, c.put_cut.ensures.floats_after))
