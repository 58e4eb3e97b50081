-- `field::band::marked_columns` meets its contract. Assumes nothing.
use Rattle.field.proofs.BandLaws.{columns_are}
use Rattle.field.proofs.band.marked_columns.Goals as goal

pub returns : goal.returns
returns c = columns_are c.args.g _ c.args.rows _ _ c.requires.rows_of c.gather_rows.ensures.1 c.marked_rows.ensures
