-- `spans::columns::fewest` meets its contract. The invariant: the bounds are those of the columns so far. Assumes nothing.
use native.Mathlib.Omega.{arith}
use Rattle.spans.proofs.ColumnLaws.{short-is, least-none, least_more, least-is, least-end}
use Rattle.spans.proofs.columns.fewest.Goals as goal

pub narrowed-requires : goal.narrowed-requires
narrowed-requires c = (c.requires.1, short-is _ _ _ _ c.span.ensures c.requires.0)

pub loop-i-preserved : goal.loop-i-preserved
loop-i-preserved c = least_more _ _ _ _ _ _ _ (least-is _ _ _ _ _ _ c.beyond.ensures c.below.ensures c.span.ensures) c.loop-i.invariant c.in_ok-b.ensures
