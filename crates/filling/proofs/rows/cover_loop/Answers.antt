-- `filling::rows::cover_loop` meets its contract. Assumes nothing.
use native.Mathlib.Omega.{arith}
use Rattle.filling.proofs.RowLaws.{run-told, many_told, join_run, join_many}
use Rattle.filling.proofs.rows.cover_loop.Goals as goal

pub returns-in-Run : goal.returns-in-Run
returns-in-Run c = let r = run-told _ _ _ _ _ _ c.in-Run.is c.columns_of-c.ensures in
    join_run _ _ _ _ _ _ r.0 r.1 c.requires.xs_in_bounds _ c.paint.ensures
