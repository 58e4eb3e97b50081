-- `pocket::maps::clear_disk` meets its contract. Assumes nothing.
use mathlib.Core.Path.{sym, ap, ◌∙◌}
use Rattle.raster.specs.Stock.{Cleared}
use Rattle.std.specs.Prelude.{Ok, Err}
use Rattle.std.proofs.lemmas.Result.{err_from_is_err_and}
use Rattle.pocket.specs.Leaves.{on_map, clear_disk_of}
use Rattle.pocket.proofs.AskedLaws.{map-over}
use Rattle.pocket.proofs.LeafLaws.{is-refused, is-answered}
use Rattle.pocket.proofs.maps.clear_disk.Goals as goal

pub returns-in_err-ask_disk : goal.returns-in_err-ask_disk
unfolding clear_disk_of
returns-in_err-ask_disk c =
    let p = err_from_is_err_and c.from_residual.result c.from_residual.ensures.1 in
    rw (p.1, p.2) (let s = c.args in is-refused (λ n. on_map (Err n) s.map.now) _ _ c.ask_disk.ensures _ c.in_err-ask_disk.was _)

pub clear_disk-requires : goal.clear_disk-requires
clear_disk-requires c = map-over _ _ _ (sym c.ask_disk.ensures ∙ c.in_ok-ask_disk.was)

pub returns : goal.returns
unfolding clear_disk_of
returns c = let s = c.args in
    is-answered (λ n. on_map (Err n) s.map.now) _ _ c.ask_disk.ensures c.in_ok-ask_disk.was _ _ (ap (λ (t : Cleared). on_map (Ok t.removed) t.cells) c.clear_disk.ensures)
