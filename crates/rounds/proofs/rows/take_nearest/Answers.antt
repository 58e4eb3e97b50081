-- `rounds::rows::take_nearest` meets its contract. Assumes nothing.
use mathlib.Core.Path.{ap, ◌∙◌}
use lib.ListN.{length}
use Rattle.rounds.proofs.RowsLaws.{swap_asks, take-is, take_long}
use Rattle.rounds.proofs.rows.take_nearest.Goals as goal

pub swap_remove-requires : goal.swap_remove-requires
swap_remove-requires c =
    let r = swap_asks _ _ _ _ _ c.rows-a.ensures c.log-e.ensures c.requires.n_in_bounds c.requires.lying _ _ c.requires.le_m _ c.next-k.ensures in
    record { m_in_bounds = r.0; k_lt_m = r.1 }

pub returns : goal.returns
returns c =
    let r = take-is _ _ _ _ _ c.rows-a.ensures c.log-e.ensures c.requires.n_in_bounds c.requires.lying _ _ c.requires.le_m _ c.next-k.ensures _ _ c.swap_remove.ensures.value c.swap_remove.ensures.rows_after in
    record { value = r.0; u_after = r.1 }

pub shape_of-u : goal.shape_of-u
shape_of-u c = ap length (returns c).u_after ∙ take_long _ _ _ _ _ c.rows-a.ensures c.log-e.ensures c.requires.n_in_bounds c.requires.lying _ _ c.requires.le_m _ c.next-k.ensures
