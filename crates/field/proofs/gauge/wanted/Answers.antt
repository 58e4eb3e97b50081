-- `field::gauge::wanted` meets its contract. Assumes nothing.
use borrow.Author.Tests.{eq-eqb, ne_eqb}
use Rattle.field.proofs.GaugeLaws.{wanted_not, wanted-all, wanted-near}
use Rattle.field.proofs.gauge.wanted.Goals as goal

pub returns-then-g : goal.returns-then-g
returns-then-g c = wanted-all c.args.g _ _ _ (eq-eqb _ _ c.if-allowed-k-eq1.true) c.if-g.true

pub returns-then-allowed-k-eq1 : goal.returns-then-allowed-k-eq1
returns-then-allowed-k-eq1 c = wanted-near c.args.g _ _ _ (eq-eqb _ _ c.if-allowed-k-eq1.true) c.if-g.false _ c.is_within.ensures

pub returns : goal.returns
returns c = wanted_not c.args.g _ _ _ (ne_eqb _ _ c.if-allowed-k-eq1.false)
