-- `pocket::maps::pocket_clear_disk` meets its contract. Assumes nothing.
use Rattle.pocket.specs.Answers.{of_count}
use Rattle.pocket.proofs.LeafLaws.{told-map}
use Rattle.pocket.proofs.maps.pocket_clear_disk.Goals as goal

pub returns : goal.returns
returns c = told-map of_count _ _ c.from.ensures _ _ c.clear_disk.ensures
