-- `abi::of_raster::raster_disk_row` meets its contract. Assumes nothing.
use mathlib.Core.Path.{ap, ◌∙◌}
use Rattle.raster.specs.Disk.{disk_row}
use Rattle.abi.specs.Raster.{packed_span}
use Rattle.abi.proofs.of_raster.raster_disk_row.Goals as goal

pub returns : goal.returns
unfolding disk_row
returns c = c.pack_span.ensures ∙ ap packed_span c.chord.ensures
