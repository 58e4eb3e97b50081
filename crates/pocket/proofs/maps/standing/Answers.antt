-- `pocket::maps::standing` meets its contract. Assumes nothing.
use mathlib.Core.Path.{sym, ap, ◌∙◌}
use Prim.Native.Nat.{◌*◌}
use native.Mathlib.Omega.{arith}
use Rattle.loops.specs.Cells.{ones}
use Rattle.std.specs.Prelude.{Ok, Err}
use Rattle.std.proofs.lemmas.Result.{err_from_is_err_and}
use Rattle.pocket.specs.Leaves.{standing_of}
use Rattle.pocket.proofs.AskedLaws.{sides-few, size_none, front}
use Rattle.pocket.proofs.LeafLaws.{is-refused, is-answered}
use Rattle.pocket.proofs.maps.standing.Goals as goal

pub returns-in_err-ask_size : goal.returns-in_err-ask_size
unfolding standing_of
returns-in_err-ask_size c =
    let p = err_from_is_err_and c.from_residual.result c.from_residual.ensures.1 in
    rw (p.1, p.2) (is-refused Err _ _ c.ask_size.ensures _ c.in_err-ask_size.was _)

pub overflow_mul-n : goal.overflow_mul-n
overflow_mul-n c = let s = c.args in
    omega (arith, sides-few s.nx s.ny (size_none s.nx s.ny _ (sym c.ask_size.ensures ∙ c.in_ok-ask_size.was)).0)

pub slice_bounds-count-end : goal.slice_bounds-count-end
slice_bounds-count-end c = let s = c.args in
    (size_none s.nx s.ny _ (sym c.ask_size.ensures ∙ c.in_ok-ask_size.was)).1

pub returns : goal.returns
unfolding standing_of
returns c = let s = c.args in
    is-answered Err _ _ c.ask_size.ensures c.in_ok-ask_size.was _ _ (ap Ok (c.count.ensures ∙ ap ones (front (s.ny * s.nx) s.map.now)))
