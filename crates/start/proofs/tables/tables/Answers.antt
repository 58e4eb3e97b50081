-- `start::tables::tables` meets its contract. Assumes nothing.
use Rattle.start.proofs.StartLaws.{tabled_is}
use Rattle.start.proofs.tables.tables.Goals as goal

pub returns : goal.returns
returns c = tabled_is c.args.s c.args.w.now _ _ _ c.cells-n.ensures c.rim-a.ensures
    c.tables_end-e.ensures c.requires.s_in_bounds _ c.fill.auto.w c.fill.ensures
