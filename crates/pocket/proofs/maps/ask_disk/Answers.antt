-- `pocket::maps::ask_disk` meets its contract. Assumes nothing.
use Rattle.pocket.proofs.AskedLaws.{both_are, map_by_lem}
use Rattle.pocket.proofs.maps.ask_disk.Goals as goal

pub returns : goal.returns
returns c = map_by_lem _ _ _ _ _ _ (both_are c.grid_fits.ensures c.disk_fits.ensures) c.ask_map.ensures
