-- `rounds::rows::next` meets its contract. Assumes nothing.
use Rattle.rounds.proofs.RowsLaws.{lent_readable, lent-next}
use Rattle.rounds.proofs.rows.next.Goals as goal

pub nearest-requires : goal.nearest-requires
nearest-requires c = record { readable = lent_readable _ _ _ _ _ c.rows-a.ensures c.log-e.ensures c.requires.n_in_bounds c.requires.lying _ _ _ c.traced-f.ensures c.guide-g.ensures c.requires.n_in_bounds_2; le_m = c.requires.le_m }

pub returns : goal.returns
returns c = lent-next _ _ _ _ _ c.rows-a.ensures c.log-e.ensures c.requires.n_in_bounds c.requires.lying _ _ _ c.traced-f.ensures c.guide-g.ensures c.requires.n_in_bounds_2 _ _ _ c.nearest.ensures c.here.ensures
