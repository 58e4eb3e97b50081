-- `rounds::rows::swap_remove` meets its contract. Assumes nothing.
use mathlib.Core.Path.{ap, ◌∙◌}
use Rattle.pieces.specs.Piece.{put_row}
use Rattle.pieces.specs.declared.row.Row.{Row}
use Rattle.rounds.proofs.rows.swap_remove.Goals as goal

pub returns : goal.returns
returns c = let a = c.args in record { value = c.row_at-r.ensures; rows_after = c.put_row.ensures ∙ ap (λ (r : Row). put_row a.k r a.rows.now) c.row_at-last.ensures }
