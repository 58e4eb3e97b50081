-- `pocket::logs::pocket_clear_crescent` meets its contract. Assumes nothing.
use Rattle.pocket.specs.Answers.{of_count}
use Rattle.pocket.proofs.LeafLaws.{told-log}
use Rattle.pocket.proofs.logs.pocket_clear_crescent.Goals as goal

pub returns : goal.returns
returns c = told-log of_count _ _ c.from.ensures _ _ _ c.clear_crescent.ensures
