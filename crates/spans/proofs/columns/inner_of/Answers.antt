-- `spans::columns::inner_of` meets its contract. Assumes nothing.
use Rattle.spans.proofs.ColumnLaws.{inner_of, inner-none}
use Rattle.spans.proofs.columns.inner_of.Goals as goal

pub returns-in-Some : goal.returns-in-Some
returns-in-Some c = inner_of _ _ _ _ _ c.sqrt.ensures c.if-h2.true c.in-Some.ensures
