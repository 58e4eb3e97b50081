-- The pieces of a contour, and how two lent slices hold them: rows of three numbers (first point, points, closed 0 or 1), and coordinates. Definitions only.
use Rattle.std.specs.Prelude.{ℕ, zero, suc, ◌+◌, ◌*◌, ◌≤◌, ◌<◌, Bool, cond, List, [], ◌∷◌, ◌++◌, length, get_or, set, eqb, Float}
use Rattle.geom.specs.Points.{points}
use Rattle.geom.specs.declared.vec2.Vec2.{Vec2}
use Rattle.pieces.specs.declared.row.Row.{Row}

-- points along a curve, which is closed or open
pub record Piece : Type 0 where
  pub points : List Vec2
  pub closed : Bool

abbrev pub row : ℕ → ℕ → Bool → Row
row first points closed = record { first = first; points = points; closed = closed }

unfoldable pub row_at : List ℕ → ℕ → Row
row_at rows k = row (get_or rows (3 * k) 0) (get_or rows (3 * k + 1) 0) (eqb (get_or rows (3 * k + 2) 0) 1)

unfoldable pub put_row : ℕ → Row → List ℕ → List ℕ
put_row k r rows = set (set (set rows (3 * k) r.first) (3 * k + 1) r.points) (3 * k + 2) (cond r.closed 1 0)

-- the piece that a row stands for
unfoldable pub piece_of : Row → List Float → Piece
piece_of r pts = record { points = points r.first r.points pts; closed = r.closed }

-- the pieces of the first m rows
unfoldable pub pieces_at : ℕ → List ℕ → List Float → List Piece
pieces_at zero rows pts = []
pieces_at (suc m) rows pts = pieces_at m rows pts ++ (piece_of (row_at rows m) pts ∷ [])

-- a row of r points in place of its own
abbrev pub cut_to : ℕ → Row → Row
cut_to r p = row p.first r p.closed

-- the point behind a row's points
abbrev pub end_of : Row → ℕ
end_of r = r.first + r.points

-- the first m rows are lent with their points, and each piece lies behind those before it
pub record Laid (m : ℕ) (rows : List ℕ) (pts : List Float) : Type 0 where
  pub lent : 3 * m ≤ length rows
  pub inside : (k : ℕ) → k < m → 2 * end_of (row_at rows k) ≤ length pts
  pub apart : (j k : ℕ) → j < k → k < m → end_of (row_at rows j) ≤ (row_at rows k).first
