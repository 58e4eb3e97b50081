-- `start::tables::clear_log` meets its contract. Assumes nothing.
use Rattle.start.proofs.StartLaws.{log_is}
use Rattle.start.proofs.tables.clear_log.Goals as goal

pub returns : goal.returns
returns c = log_is c.args.g _ _ _ _ c.cells-n.ensures c.log-a.ensures c.requires.nx_in_bounds (c.fill.ensures.after (λ y h. h))
