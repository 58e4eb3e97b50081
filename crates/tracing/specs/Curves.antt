-- The curves of a field as they are traced in the workspace. Definitions only.
use Rattle.std.specs.Prelude.{ℕ, ◌+◌, ◌*◌, ◌≤◌, ◌<◌, List, length, Float}
use Rattle.loops.specs.Frame.{Only}
use Rattle.setup.specs.Layout.{marks_from, segments_from, log_from, traced_from, guide_from}
use Rattle.pieces.specs.Piece.{Piece, row_at, end_of, Laid}
use Rattle.workspace.specs.Lies.{rows_in, traced_in, Lies}

-- the slices are lent for n cells
pub record Room (n : ℕ) (b u : List ℕ) (w : List Float) : Type 0 where
  pub bytes : 8 * n ≤ length b
  pub words : 32 * n + 8192 ≤ length u
  pub doubles : 32 * n + 8192 ≤ length w

-- the pieces l lie there, one behind the other, their points among the first `points`
pub record Laying (n : ℕ) (l : List Piece) (m points : ℕ) (u : List ℕ) (w : List Float) : Type 0 where
  pub lies : Lies n l m u w
  pub laid : Laid m (rows_in n u) (traced_in n w)
  pub within : (k : ℕ) → k < m → end_of (row_at (rows_in n u) k) ≤ points
  pub few : points ≤ 2 * n

-- beside the edges' marks, the segments and next edges, the pieces' rows and their points nothing changed
pub record Beside (n : ℕ) (b u : List ℕ) (w : List Float) (b' u' : List ℕ) (w' : List Float) : Type 0 where
  pub bytes : Only (marks_from n) (8 * n) b b'
  pub words : Only (segments_from n) (log_from n) u u'
  pub doubles : Only (traced_from n) (guide_from n) w w'
