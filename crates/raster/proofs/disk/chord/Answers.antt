-- `raster::disk::chord` meets its contract. Assumes nothing.
use Rattle.raster.proofs.DiskLaws.{chord_none, chord_some}
use Rattle.raster.proofs.disk.chord.Goals as goal

pub returns-then-h2 : goal.returns-then-h2
returns-then-h2 c = chord_none _ _ _ _ _ c.row_y.ensures c.if-h2.true

pub returns : goal.returns
returns c = chord_some _ _ _ _ _ c.row_y.ensures c.if-h2.false _ _ _ _ c.sqrt-h.ensures c.place-x0.ensures
    c.place-x1.ensures c.cols_from.ensures
