-- `raster::contact::samples_of` meets its contract. Assumes nothing.
use native.Mathlib.Omega.{arith}
use Rattle.raster.specs.Contact.{samples_of}
use Rattle.raster.proofs.contact.samples_of.Goals as goal

pub returns-then-n-lt8 : goal.returns-then-n-lt8
unfolding samples_of
returns-then-n-lt8 c = omega arith

pub returns-else-n-lt8 : goal.returns-else-n-lt8
unfolding samples_of
returns-else-n-lt8 c = omega arith
