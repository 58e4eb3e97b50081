-- `rounds::rows::read` meets its contract. Assumes nothing.
use Rattle.rounds.proofs.RowsLaws.{read_is}
use Rattle.rounds.proofs.rows.read.Goals as goal

pub returns : goal.returns
returns c = read_is _ _ _ _ _ _ c.rows-a.ensures c.log-e.ensures c.row_at.ensures
