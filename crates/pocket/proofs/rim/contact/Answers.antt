-- `pocket::rim::contact` meets its contract. Assumes nothing.
use mathlib.Core.Path.{refl, sym, ap, ◌∙◌}
use Rattle.std.specs.Prelude.{Ok, Err}
use Rattle.std.proofs.lemmas.Result.{err_from_is_err_and}
use Rattle.raster.proofs.ContactLaws.{rim-same}
use Rattle.pocket.specs.Leaves.{contact_of}
use Rattle.pocket.proofs.AskedLaws.{both_are, map_by_lem, map-none, map-over, samples-few}
use Rattle.pocket.proofs.LeafLaws.{is-refused, is-answered}
use Rattle.pocket.proofs.rim.contact.Goals as goal

pub returns-in_err-ask_map : goal.returns-in_err-ask_map
unfolding contact_of
returns-in_err-ask_map c =
    let p = err_from_is_err_and c.from_residual.result c.from_residual.ensures.1 in
    rw (p.1, p.2) (is-refused Err _ _ (map_by_lem _ _ _ _ _ _ (both_are c.grid_fits.ensures (both_are c.disk_fits.ensures refl)) c.ask_map.ensures) _ c.in_err-ask_map.was _)

pub fill_rim-requires : goal.fill_rim-requires
fill_rim-requires c = samples-few c.grid_fits.result c.disk_fits.result _ _ (map-none _ _ _ _ (sym c.ask_map.ensures ∙ c.in_ok-ask_map.was)).0 c.samples_of.ensures

pub rim_contact-requires : goal.rim_contact-requires
rim_contact-requires c = record { over = map-over _ _ _ (sym c.ask_map.ensures ∙ c.in_ok-ask_map.was); rim = rim-same c.samples_of.ensures c.fill_rim.ensures.1 }

pub returns : goal.returns
unfolding contact_of
returns c = is-answered Err _ _ (map_by_lem _ _ _ _ _ _ (both_are c.grid_fits.ensures (both_are c.disk_fits.ensures refl)) c.ask_map.ensures) c.in_ok-ask_map.was _ _ (ap Ok c.rim_contact.ensures)
