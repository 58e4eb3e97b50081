-- `field::gauge::low_of` meets its contract. Assumes nothing.
use mathlib.Core.Path.{refl}
use Rattle.field.specs.Field.{low_of}
use Rattle.field.proofs.gauge.low_of.Goals as goal

pub returns : goal.returns
unfolding low_of
returns c = rw (← c.bite_of-bite.ensures) refl
