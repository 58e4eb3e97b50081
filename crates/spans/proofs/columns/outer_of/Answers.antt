-- `spans::columns::outer_of` meets its contract. Assumes nothing.
use Rattle.spans.proofs.ColumnLaws.{outer_of, outer_below, if_some}
use Rattle.spans.proofs.columns.outer_of.Goals as goal

pub returns-then-h2 : goal.returns-then-h2
returns-then-h2 c = outer_below _ _ _ c.if-h2.true

pub returns : goal.returns
returns c = if_some _ (λ b m. outer_of _ _ _ _ b c.sqrt.ensures m) c.most.ensures
