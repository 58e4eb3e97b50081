-- `cutting::piece::go_and_keep` meets its contract. Assumes nothing.
use mathlib.Core.Path.{refl}
use native.Mathlib.Omega.{arith}
use Rattle.cutting.proofs.GoLaws.{way_asks, keep_asks, went-is}
use Rattle.cutting.proofs.piece.go_and_keep.Goals as goal

pub way_to-r-requires : goal.way_to-r-requires
way_to-r-requires c =
    let r = way_asks _ _ _ c.args.b.now c.args.u.now _ c.requires.fitted c.requires.lends _ c.allowed-allowed.ensures in
    record { fitted = r.0; over = r.1.0; s_in_bounds = r.1.1 }

pub log-log-requires : goal.log-log-requires
log-log-requires c = omega (arith, c.requires.fitted.over.sides.cells)

pub path-path-requires : goal.path-path-requires
path-path-requires c = omega (arith, c.requires.fitted.over.sides.cells)

pub overflow_add-log : goal.overflow_add-log
overflow_add-log c = omega (arith, c.requires.fitted.over.sides.cells, c.log-log.ensures)

pub offset_bounds-u-log : goal.offset_bounds-u-log
offset_bounds-u-log c = omega (arith, c.requires.fitted.over.sides.cells)

pub slice_bounds-keep_pass-end : goal.slice_bounds-keep_pass-end
slice_bounds-keep_pass-end c = omega (arith, c.requires.lends.words, c.way_to-r.ensures.only.long, c.log-log.ensures)

pub offset_bounds-w-path : goal.offset_bounds-w-path
offset_bounds-w-path c = omega (arith, c.requires.fitted.over.sides.cells)

pub slice_bounds-keep_pass-end-2 : goal.slice_bounds-keep_pass-end-2
slice_bounds-keep_pass-end-2 c = omega (arith, c.requires.fitted.long, c.way_to-r.ensures.only_2.long, c.path-path.ensures)

pub keep_pass-requires : goal.keep_pass-requires
keep_pass-requires c = let x = c.way_to-r in
    let r = keep_asks _ _ _ c.args.b.now c.args.u.now _ c.requires.fitted c.requires.lends _ c.allowed-allowed.ensures c.args.t c.args.triples.now _ c.spot-to.ensures x.result _ _ x.ensures.w_after x.ensures.only x.ensures.only_2 _ refl _ c.spend.ensures _ _ c.log-log.ensures c.path-path.ensures _ _ _ c.requires.logged c.requires.listed c.requires.le_n in
    record { sides = r.0; s_in_bounds = r.1.0; logged = r.1.1.0; route_in_bounds = r.1.1.1.0; listed = r.1.1.1.1.0; le_n = r.1.1.1.1.1 }

pub returns : goal.returns
returns c = let x = c.way_to-r in record { result_after = went-is _ _ _ c.args.b.now c.args.u.now _ c.requires.fitted c.requires.lends _ c.allowed-allowed.ensures c.args.t c.args.triples.now _ c.spot-to.ensures x.result _ _ x.ensures.w_after x.ensures.only x.ensures.only_2 _ refl _ c.spend.ensures _ _ c.log-log.ensures c.path-path.ensures _ _ _ _ _ _ _ c.keep_pass.ensures.result_after; settled = c.keep_pass.ensures.settled; only = x.ensures.only; only_2 = x.ensures.only_2 }
