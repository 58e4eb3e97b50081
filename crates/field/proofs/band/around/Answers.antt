-- `field::band::around` meets its contract. Assumes nothing.
use Rattle.field.proofs.BandLaws.{around_none, around_some}
use Rattle.field.proofs.band.around.Goals as goal

pub returns-then-rows-cols : goal.returns-then-rows-cols
returns-then-rows-cols c = around_some _ _ _ _ _ _ c.marked_rows-rows.ensures c.marked_columns-cols.ensures _ _ c.margin-m.ensures c.margin-n.ensures _ _ c.widen-r.ensures c.widen-c.ensures

pub returns : goal.returns
returns c = around_none _ _ _ _ _ _ c.marked_rows-rows.ensures c.marked_columns-cols.ensures _ c.margin-m.ensures c.if-rows-cols.false
