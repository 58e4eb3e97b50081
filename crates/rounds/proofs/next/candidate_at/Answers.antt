-- `rounds::next::candidate_at` meets its contract. Assumes nothing.
use Rattle.rounds.proofs.NextLaws.{row_read, candidate-is}
use Rattle.rounds.proofs.next.candidate_at.Goals as goal

pub row_at-r-requires : goal.row_at-r-requires
row_at-r-requires c = c.requires.k_in_bounds

pub far-requires : goal.far-requires
far-requires c = row_read _ _ c.requires.read _ c.row_at-r.ensures

pub returns : goal.returns
returns c = candidate-is _ _ _ _ _ c.row_at-r.ensures _ c.far.ensures
