-- `cutting::piece::keep_pass` meets its contract. Assumes nothing.
use Prim.Native.Nat.{◌+◌, ◌*◌, ◌≤◌}
use native.Mathlib.Omega.{arith}
use lib.ListN.{length}
use Rattle.std.proofs.lemmas.Result.{err_from_is_err_and}
use Rattle.cutting.proofs.SettleLaws.{settled_not}
use Rattle.cutting.proofs.KeepLaws.{keep-refused, keep-fits, keep-listed}
use Rattle.cutting.proofs.piece.keep_pass.Goals as goal
use Rattle.cutting.proofs.piece.keep_pass.Goals.{In_ok-room}

fits : (c : In_ok-room) → let m = c.moves_of-moves.result in ((c.args.t.triples + m + c.args.n) * 3 ≤ length c.args.triples.now) × ((c.args.t.rows + m + 1) * 3 ≤ length c.args.rows.now)
fits c = keep-fits c.args.s c.args.t c.args.b.now c.args.log.now c.args.path.now _ _ c.args.route c.args.removed _ 0 _ c.moves_of-moves.ensures _ c.room.ensures _ c.in_ok-room.was c.requires.listed

pub returns-in_err-room : goal.returns-in_err-room
returns-in_err-room c =
    let p = err_from_is_err_and c.from_residual.result c.from_residual.ensures.1 in
    rw (p.1, p.2) (record { result_after = keep-refused c.args.s c.args.t c.args.b.now c.args.log.now c.args.path.now c.args.triples.now c.args.rows.now c.args.route c.args.removed c.args.n (c.args.s.grid.ny * c.args.s.grid.nx) _ c.moves_of-moves.ensures _ c.room.ensures _ c.in_err-room.was; settled = settled_not _ _ c.requires.s_in_bounds })

pub overflow_add-first : goal.overflow_add-first
overflow_add-first c = omega (arith, c.requires.listed.fit_triples, c.well_formed)

pub list_pass-requires : goal.list_pass-requires
list_pass-requires c = let f = fits (goal.at.list_pass-requires c).In_ok-room in let m = c.moves_of-moves.ensures in record { route_in_bounds = c.requires.route_in_bounds; n_in_bounds = omega (arith, f.0, m); route_in_bounds_2 = omega (arith, f.1, m); countable = c.requires.listed.countable }

pub overflow_mul-s : goal.overflow_mul-s
overflow_mul-s c = let h = c.requires.sides in omega (arith, h.cells)

pub settle-requires : goal.settle-requires
settle-requires c = record { n_le_most = c.requires.sides.cells; n_in_bounds = c.requires.s_in_bounds; logged = c.requires.logged }

pub overflow_add-result : goal.overflow_add-result
overflow_add-result c = omega (arith, (fits (goal.at.overflow_add-result c).In_ok-room).1, c.well_formed)

pub overflow_add-result-2 : goal.overflow_add-result-2
overflow_add-result-2 c = omega (arith, (fits (goal.at.overflow_add-result-2 c).In_ok-room).1, c.well_formed)

pub overflow_add-result-3 : goal.overflow_add-result-3
overflow_add-result-3 c = omega (arith, (fits (goal.at.overflow_add-result-3 c).In_ok-room).0, c.well_formed)

pub overflow_add-result-4 : goal.overflow_add-result-4
overflow_add-result-4 c = omega (arith, (fits (goal.at.overflow_add-result-4 c).In_ok-room).0, c.well_formed)

pub returns : goal.returns
returns c =
    let r = keep-listed c.args.s c.args.t c.args.b.now c.args.log.now c.args.path.now c.args.triples.now c.args.rows.now c.args.route c.args.removed c.args.n (c.args.s.grid.ny * c.args.s.grid.nx) _ c.moves_of-moves.ensures _ c.room.ensures _ c.in_ok-room.was c.requires.s_in_bounds _ c.greatest-planned_max.ensures _ c.spot-lead.ensures _ c.spot-last.ensures _ c.list_pass.ensures.triples_after _ c.list_pass.ensures.rows_after _ c.settle.ensures in
    record { result_after = r.0; settled = r.1 }
