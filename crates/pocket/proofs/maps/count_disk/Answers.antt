-- `pocket::maps::count_disk` meets its contract. Assumes nothing.
use mathlib.Core.Path.{sym, ap, ◌∙◌}
use Rattle.std.specs.Prelude.{Ok, Err}
use Rattle.std.proofs.lemmas.Result.{err_from_is_err_and}
use Rattle.pocket.specs.Leaves.{count_disk_of}
use Rattle.pocket.proofs.AskedLaws.{map-over}
use Rattle.pocket.proofs.LeafLaws.{is-refused, is-answered}
use Rattle.pocket.proofs.maps.count_disk.Goals as goal

pub returns-in_err-ask_disk : goal.returns-in_err-ask_disk
unfolding count_disk_of
returns-in_err-ask_disk c =
    let p = err_from_is_err_and c.from_residual.result c.from_residual.ensures.1 in
    rw (p.1, p.2) (is-refused Err _ _ c.ask_disk.ensures _ c.in_err-ask_disk.was _)

pub count_disk-requires : goal.count_disk-requires
count_disk-requires c = map-over _ _ _ (sym c.ask_disk.ensures ∙ c.in_ok-ask_disk.was)

pub returns : goal.returns
unfolding count_disk_of
returns c = is-answered Err _ _ c.ask_disk.ensures c.in_ok-ask_disk.was _ _ (ap Ok c.count_disk.ensures)
