-- `pocket::logs::ask_crescent` meets its contract. Assumes nothing.
use mathlib.Core.Path.{sym, ◌∙◌}
use native.Mathlib.Omega.{arith}
use Rattle.std.specs.Prelude.{Ok, Err}
use Rattle.std.proofs.lemmas.Result.{err_from_is_err_and}
use Rattle.pocket.proofs.AskedLaws.{both_are, map_by_lem, map-over}
use Rattle.pocket.proofs.CrescentLaws.{crescent-first, crescent-full, crescent-fits}
use Rattle.pocket.proofs.logs.ask_crescent.Goals as goal

pub returns-in_err-ask_map : goal.returns-in_err-ask_map
returns-in_err-ask_map c =
    let p = err_from_is_err_and c.from_residual.result c.from_residual.ensures.1 in
    rw (p.1, p.2) (let s = c.args in crescent-first s.g s.prev s.c s.r s.map.now _ _ _ (sym c.in_err-ask_map.was ∙ map_by_lem _ _ _ _ _ _ (both_are c.grid_fits.ensures (both_are c.point_fits.ensures c.disk_fits.ensures)) c.ask_map.ensures))

pub overflow_mul-g : goal.overflow_mul-g
overflow_mul-g c = let s = c.args in
    omega (arith, (map-over _ s.g _ (sym c.ask_map.ensures ∙ c.in_ok-ask_map.was)).sides.cells)

pub room_fits-requires : goal.room_fits-requires
room_fits-requires c = let s = c.args in
    (map-over _ s.g _ (sym c.ask_map.ensures ∙ c.in_ok-ask_map.was)).long

pub returns-then-not-room_fits : goal.returns-then-not-room_fits
returns-then-not-room_fits c = let s = c.args in
    crescent-full s.g s.prev s.c s.r s.map.now _ _ (sym (map_by_lem _ _ _ _ _ _ (both_are c.grid_fits.ensures (both_are c.point_fits.ensures c.disk_fits.ensures)) c.ask_map.ensures) ∙ c.in_ok-ask_map.was) (sym c.room_fits.ensures ∙ c.if-not-room_fits.true)

pub returns : goal.returns
returns c = let s = c.args in
    crescent-fits s.g s.prev s.c s.r s.map.now _ _ (sym (map_by_lem _ _ _ _ _ _ (both_are c.grid_fits.ensures (both_are c.point_fits.ensures c.disk_fits.ensures)) c.ask_map.ensures) ∙ c.in_ok-ask_map.was) (sym c.room_fits.ensures ∙ c.if-not-room_fits.false)
