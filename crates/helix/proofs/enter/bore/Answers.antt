-- `helix::enter::bore` meets its contract. Assumes nothing.
use Prim.Native.Nat.{◌*◌}
use native.Mathlib.Omega.{arith}
use Rattle.std.proofs.lemmas.Result.{err_from_is_err_and}
use Rattle.helix.proofs.EnterLaws.{bore_refused, bore_fits, bore_listed}
use Rattle.helix.proofs.enter.bore.Goals as goal

pub returns-in_err-room : goal.returns-in_err-room
returns-in_err-room c =
    let p = err_from_is_err_and c.from_residual.result c.from_residual.ensures.1 in
    let r = bore_refused c.args.s c.args.t c.args.b.now c.args.triples.now c.args.rows.now c.args.c c.args.radius c.args.given_up (c.args.s.grid.ny * c.args.s.grid.nx) c.requires.s_in_bounds _ c.room.ensures _ c.in_err-room.was in
    rw (p.1, p.2) (record { result_after = r.0; only = r.1 })

pub put_triple-requires : goal.put_triple-requires
put_triple-requires c = let f = bore_fits c.args.s c.args.t c.args.b.now c.args.triples.now c.args.rows.now c.args.c c.args.radius c.args.given_up (c.args.s.grid.ny * c.args.s.grid.nx) c.requires.s_in_bounds _ c.room.ensures _ c.in_ok-room.was c.requires.listed in omega (arith, f.0)

pub overflow_cast-first : goal.overflow_cast-first
overflow_cast-first c = let f = bore_fits c.args.s c.args.t c.args.b.now c.args.triples.now c.args.rows.now c.args.c c.args.radius c.args.given_up (c.args.s.grid.ny * c.args.s.grid.nx) c.requires.s_in_bounds _ c.room.ensures _ c.in_ok-room.was c.requires.listed in omega (arith, f.0, c.requires.listed.countable.few-triples)

pub put_row-requires : goal.put_row-requires
put_row-requires c = let f = bore_fits c.args.s c.args.t c.args.b.now c.args.triples.now c.args.rows.now c.args.c c.args.radius c.args.given_up (c.args.s.grid.ny * c.args.s.grid.nx) c.requires.s_in_bounds _ c.room.ensures _ c.in_ok-room.was c.requires.listed in omega (arith, f.1)

pub overflow_add-entered : goal.overflow_add-entered
overflow_add-entered c = let f = bore_fits c.args.s c.args.t c.args.b.now c.args.triples.now c.args.rows.now c.args.c c.args.radius c.args.given_up (c.args.s.grid.ny * c.args.s.grid.nx) c.requires.s_in_bounds _ c.room.ensures _ c.in_ok-room.was c.requires.listed in omega (arith, f.1, c.requires.listed.countable.few-rows)

pub overflow_add-entered-2 : goal.overflow_add-entered-2
overflow_add-entered-2 c = let f = bore_fits c.args.s c.args.t c.args.b.now c.args.triples.now c.args.rows.now c.args.c c.args.radius c.args.given_up (c.args.s.grid.ny * c.args.s.grid.nx) c.requires.s_in_bounds _ c.room.ensures _ c.in_ok-room.was c.requires.listed in omega (arith, f.0, c.requires.listed.countable.few-triples)

pub returns : goal.returns
returns c =
    let r = bore_listed c.args.s c.args.t c.args.b.now c.args.triples.now c.args.rows.now c.args.c c.args.radius c.args.given_up (c.args.s.grid.ny * c.args.s.grid.nx) c.requires.s_in_bounds _ c.room.ensures _ c.in_ok-room.was _ _ c.clear_disk.ensures _ c.put_triple.ensures _ c.put_row.ensures _ c.end_of.ensures in
    record { result_after = r.0; only = r.1 }
