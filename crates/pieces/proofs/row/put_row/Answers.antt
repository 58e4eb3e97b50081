-- `pieces::row::put_row` meets its contract. Assumes nothing.
use native.Mathlib.Omega.{arith}
use lib.ListN.{length-set}
use Rattle.pieces.specs.Piece.{put_row}
use Rattle.pieces.proofs.row.put_row.Goals as goal
use Rattle.pieces.proofs.row.put_row.Goals.{else-p, then-p}

pub returns : goal.returns
unfolding put_row
returns c = elim c.if-p.branch [ then-p w ↦ rw (w.rows-is, w.if-p.true) | else-p w ↦ rw (w.rows-is, w.if-p.false) ]
