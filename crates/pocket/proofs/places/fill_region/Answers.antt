-- `pocket::places::fill_region` meets its contract. Assumes nothing.
use mathlib.Core.Path.{sym, ap, ◌∙◌}
use mathlib.Core.List.{List}
use Prim.Native.Nat.{ℕ}
use Rattle.std.specs.Prelude.{Ok, Err}
use Rattle.std.proofs.lemmas.Result.{err_from_is_err_and}
use Rattle.pocket.specs.Leaves.{on_map, fill_of}
use Rattle.pocket.proofs.LeafLaws.{is-refused, is-answered}
use Rattle.pocket.proofs.ShapeLaws.{shape_held, fill_none}
use Rattle.pocket.proofs.places.fill_region.Goals as goal

pub returns-in_err-ask_fill : goal.returns-in_err-ask_fill
unfolding fill_of
returns-in_err-ask_fill c =
    let p = err_from_is_err_and c.from_residual.result c.from_residual.ensures.1 in
    rw (p.1, p.2) (let s = c.args in is-refused (λ n. on_map (Err n) s.map.now) _ _ c.ask_fill.ensures _ c.in_err-ask_fill.was _)

pub fill_region-requires : goal.fill_region-requires
fill_region-requires c = let s = c.args in
    let w = fill_none s.g s.vs.now s.lens.now _ (sym c.ask_fill.ensures ∙ c.in_ok-ask_fill.was) in record { over = w.1; held = shape_held s.vs.now s.lens.now w.0; nx_in_bounds = w.1.sides.columns }

pub returns : goal.returns
unfolding fill_of
returns c = let s = c.args in
    is-answered (λ n. on_map (Err n) s.map.now) _ _ c.ask_fill.ensures c.in_ok-ask_fill.was _ _ (ap (λ (m : List ℕ). on_map (Ok tt) m) c.fill_region.ensures)
