-- `pocket::logs::undo` meets its contract. Assumes nothing.
use mathlib.Core.Path.{sym, ap, ◌∙◌}
use mathlib.Core.List.{List}
use Prim.Native.Nat.{ℕ}
use Rattle.std.specs.Prelude.{Ok, Err}
use Rattle.std.proofs.lemmas.Result.{err_from_is_err_and}
use Rattle.pocket.specs.Leaves.{on_map, undo_of}
use Rattle.pocket.proofs.LeafLaws.{is-refused, is-answered}
use Rattle.pocket.proofs.LoggedLaws.{logged-is}
use Rattle.raster.proofs.LogLaws.{undone-front, logged-front, front-long}
use Rattle.pocket.proofs.logs.undo.Goals as goal

pub returns-in_err-ask_log : goal.returns-in_err-ask_log
unfolding undo_of
returns-in_err-ask_log c =
    let p = err_from_is_err_and c.from_residual.result c.from_residual.ensures.1 in
    rw (p.1, p.2) (let s = c.args in is-refused (λ n. on_map (Err n) s.map.now) _ _ c.ask_log.ensures _ c.in_err-ask_log.was _)

pub slice_bounds-undo-end : goal.slice_bounds-undo-end
slice_bounds-undo-end c = let s = c.args in front-long _ _ _ (logged-is _ _ _ s.log.now _ (sym c.ask_log.ensures ∙ c.in_ok-ask_log.was))

pub undo-requires : goal.undo-requires
undo-requires c = let s = c.args in
    logged-front _ _ _ (logged-is _ _ _ s.log.now _ (sym c.ask_log.ensures ∙ c.in_ok-ask_log.was))

pub returns : goal.returns
unfolding undo_of
returns c = let s = c.args in
    is-answered (λ n. on_map (Err n) s.map.now) _ _ c.ask_log.ensures c.in_ok-ask_log.was _ _ (ap (λ (m : List ℕ). on_map (Ok tt) m) (c.undo.ensures ∙ undone-front _ _ _ _ (logged-is _ _ _ s.log.now _ (sym c.ask_log.ensures ∙ c.in_ok-ask_log.was))))
