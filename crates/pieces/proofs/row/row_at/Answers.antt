-- `pieces::row::row_at` meets its contract. Assumes nothing.
use mathlib.Core.Path.{refl}
use Rattle.pieces.specs.Piece.{row_at}
use Rattle.pieces.proofs.row.row_at.Goals as goal

pub returns : goal.returns
unfolding row_at
returns c = refl
