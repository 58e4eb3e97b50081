-- `field::gauge::gauge_of` meets its contract. Assumes nothing.
use Rattle.field.proofs.GaugeLaws.{gauged}
use Rattle.field.proofs.gauge.gauge_of.Goals as goal

pub invariant_of-result : goal.invariant_of-result
invariant_of-result c = record { gauged = gauged _ _ _ _ _ _ c.of-far.ensures c.low_of.ensures c.of-deep.ensures c.of-near.ensures c.narrow.ensures }
