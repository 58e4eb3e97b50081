-- `spans::columns::most` meets its contract. The invariant: the bounds are those of the columns so far. Assumes nothing.
use native.Mathlib.Omega.{arith}
use Rattle.spans.proofs.ColumnLaws.{short-is, most-none, most_more, most-is, most-end}
use Rattle.spans.proofs.columns.most.Goals as goal

pub widened-requires : goal.widened-requires
widened-requires c = (c.requires.1, short-is _ _ _ _ c.span.ensures c.requires.0)

pub loop-i-preserved : goal.loop-i-preserved
loop-i-preserved c = most_more _ _ _ _ _ _ _ (most-is _ _ _ _ _ _ c.below.ensures c.beyond.ensures c.span.ensures) c.loop-i.invariant c.in_ok-b.ensures
