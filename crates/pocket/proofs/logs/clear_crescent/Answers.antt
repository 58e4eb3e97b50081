-- `pocket::logs::clear_crescent` meets its contract. Assumes nothing.
use mathlib.Core.Path.{sym, ◌∙◌}
use native.Mathlib.Omega.{arith}
use Rattle.std.specs.Prelude.{Ok, Err}
use Rattle.std.proofs.lemmas.Result.{err_from_is_err_and}
use Rattle.pocket.specs.Leaves.{on_log, clear_crescent_of}
use Rattle.pocket.proofs.LeafLaws.{is-refused}
use Rattle.pocket.proofs.CrescentLaws.{crescent-sides, crescent-long, crescent-ready, crescent-done}
use Rattle.pocket.proofs.logs.clear_crescent.Goals as goal

pub returns-in_err-ask_crescent : goal.returns-in_err-ask_crescent
unfolding clear_crescent_of
returns-in_err-ask_crescent c =
    let p = err_from_is_err_and c.from_residual.result c.from_residual.ensures.1 in
    rw (p.1, p.2) (let s = c.args in is-refused (λ n. on_log (Err n) s.map.now s.log.now) _ _ c.ask_crescent.ensures _ c.in_err-ask_crescent.was _)

pub overflow_mul-n : goal.overflow_mul-n
overflow_mul-n c = let s = c.args in
    omega (arith, (crescent-sides s.g s.prev s.c s.r s.map.now _ _ (sym c.ask_crescent.ensures ∙ c.in_ok-ask_crescent.was)).cells)

pub slice_bounds-clear_disk_after_logged-end : goal.slice_bounds-clear_disk_after_logged-end
slice_bounds-clear_disk_after_logged-end c = let s = c.args in
    crescent-long s.g s.prev s.c s.r s.map.now _ _ (sym c.ask_crescent.ensures ∙ c.in_ok-ask_crescent.was)

pub clear_disk_after_logged-requires : goal.clear_disk_after_logged-requires
clear_disk_after_logged-requires c = let s = c.args in
    let r = crescent-ready s.g s.prev s.c s.r s.map.now s.log.now _ (sym c.ask_crescent.ensures ∙ c.in_ok-ask_crescent.was) in
    record { over = r.0; ready = r.1 }

pub returns : goal.returns
returns c = let s = c.args in
    crescent-done s.g s.prev s.c s.r s.map.now s.log.now s.used _ c.ask_crescent.ensures c.in_ok-ask_crescent.was _ _ _ c.clear_disk_after_logged.ensures
