-- `smoothing::smooth::smooth_row` meets its contract. Assumes nothing.
use mathlib.Core.Path.{sym, ap, ◌∙◌, subst}
use Prim.Native.Nat.{◌*◌, ◌≤◌}
use native.Mathlib.Omega.{arith}
use lib.ListN.{length}
use Rattle.pieces.specs.Piece.{put_row, cut_to, end_of}
use Rattle.pieces.specs.declared.row.Row.{Row}
use Rattle.smoothing.proofs.RowLaws.{read-smoothed}
use Rattle.smoothing.proofs.smooth.smooth_row.Goals as goal

pub returns : goal.returns
returns c = let a = c.args in
    let p = c.row_at-p in
    let m = c.smooth-m in record { rows_after = c.put_row.ensures ∙ ap (λ (q : Row). put_row a.k (cut_to m.result q) a.rows.now) p.ensures; smoothed_row = read-smoothed _ _ _ _ _ _ p.ensures c.requires.k_in_bounds_2 m.ensures }
