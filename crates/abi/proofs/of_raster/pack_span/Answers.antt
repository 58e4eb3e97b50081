-- `abi::of_raster::pack_span` meets its contract. Assumes nothing.
use Rattle.abi.specs.Raster.{packed_span}
use Rattle.abi.proofs.of_raster.pack_span.Goals as goal

pub returns-in-None : goal.returns-in-None
unfolding packed_span
returns-in-None c = rw c.in-None.is

pub returns-in-Some : goal.returns-in-Some
unfolding packed_span
returns-in-Some c = rw c.in-Some.is
