-- The pieces of a round as they lie in the workspace of n cells: rows of three u32, and the traced points that they cite. Definitions only.
use Rattle.std.specs.Prelude.{ℕ, ◌*◌, ◌≤◌, ◌<◌, ◌≡◌, List, Float}
use Rattle.loops.specs.Regions.{within}
use Rattle.setup.specs.Layout.{rows_from, log_from, traced_from, guide_from}
use Rattle.pieces.specs.Piece.{Piece, row_at, pieces_at, end_of}

-- ---- the two regions

-- the rows of the pieces, room for n
abbrev pub rows_in : ℕ → List ℕ → List ℕ
rows_in n u = within (rows_from n) (log_from n) u

-- the traced points, room for 2 n
abbrev pub traced_in : ℕ → List Float → List Float
traced_in n w = within (traced_from n) (guide_from n) w

-- the pieces of the first m rows
abbrev pub pieces_in : ℕ → ℕ → List ℕ → List Float → List Piece
pieces_in n m u w = pieces_at m (rows_in n u) (traced_in n w)

-- ---- what holds of them

-- the first m rows are rows of pieces, each of a point or more that lie among the traced ones. They need not lie in order, nor apart
pub record Lying (n m : ℕ) (u : List ℕ) : Type 0 where
  pub few : m ≤ n
  pub some : (k : ℕ) → k < m → 1 ≤ (row_at (rows_in n u) k).points
  pub inside : (k : ℕ) → k < m → end_of (row_at (rows_in n u) k) ≤ 2 * n

-- and they stand for the pieces l
pub record Lies (n : ℕ) (l : List Piece) (m : ℕ) (u : List ℕ) (w : List Float) : Type 0 where
  pub lying : Lying n m u
  pub is : pieces_in n m u w ≡ l
