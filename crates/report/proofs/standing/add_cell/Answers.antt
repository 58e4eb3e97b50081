-- `report::standing::add_cell` meets its contract. Assumes nothing.
use Rattle.report.proofs.StandingLaws.{counted_none, counted-reach, counted_not}
use Rattle.report.proofs.standing.add_cell.Goals as goal

pub returns-then-stock-ne1 : goal.returns-then-stock-ne1
returns-then-stock-ne1 c = counted_none _ _ _ c.if-stock-ne1.true

pub returns-then-reachable-eq1 : goal.returns-then-reachable-eq1
returns-then-reachable-eq1 c = counted-reach _ _ c.args.t c.if-stock-ne1.false c.if-reachable-eq1.true

pub returns : goal.returns
returns c = counted_not _ _ c.args.t c.if-stock-ne1.false c.if-reachable-eq1.false
