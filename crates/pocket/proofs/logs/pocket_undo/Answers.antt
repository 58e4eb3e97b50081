-- `pocket::logs::pocket_undo` meets its contract. Assumes nothing.
use Rattle.pocket.specs.Answers.{of_done}
use Rattle.pocket.proofs.LeafLaws.{told-map}
use Rattle.pocket.proofs.logs.pocket_undo.Goals as goal

pub returns : goal.returns
returns c = told-map of_done _ _ c.of_done.ensures _ _ c.undo.ensures
