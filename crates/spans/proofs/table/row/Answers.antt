-- `spans::table::row` meets its contract. Assumes nothing.
use Rattle.loops.proofs.Cases.{both}
use Rattle.spans.proofs.TableLaws.{row_told}
use Rattle.spans.proofs.table.row.Goals as goal

pub returns-then-is_small : goal.returns-then-is_small
returns-then-is_small c =
    let s = c.requires in
    let p = both _ _ c.if-is_small.true in
    row_told _ _ _ _ s.sides s.tame s.s_nonzero.0 _ c.in_ok-h.ensures _ _ c.in_ok-o.ensures c.inner_of-n.ensures (c.is_small.ensures p.0) (c.is_small-2.ensures p.1) _ c.packed.ensures c.packed-then-is_small.ensures
