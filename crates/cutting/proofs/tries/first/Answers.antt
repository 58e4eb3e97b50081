-- `cutting::tries::first` meets its contract. Assumes nothing.
use Rattle.cutting.proofs.TriesLaws.{first-near}
use Rattle.cutting.proofs.tries.first.Goals as goal

pub returns-then-closed : goal.returns-then-closed
returns-then-closed c = first-near _ _ _ _ _ c.requires.m_in_bounds c.if-closed.true _ c.near_start.ensures
