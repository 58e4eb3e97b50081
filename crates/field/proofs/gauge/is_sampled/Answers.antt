-- `field::gauge::is_sampled` meets its contract. Assumes nothing.
use mathlib.Core.Path.{ap}
use Rattle.distance.specs.declared.limits.Threshold.{Threshold}
use Rattle.field.proofs.gauge.is_sampled.Goals as goal

pub beyond-requires : goal.beyond-requires
beyond-requires c = record { strict_value = ap (λ (b : Threshold). b.strict) c.args.g.gauged.far }
