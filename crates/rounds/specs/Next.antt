-- Which piece of a round is cut next, as `plan` of adaptive.rs has it ("Near pieces first"); of equally near ones the longer, by wish 7 of document 02.
-- Definitions only.
use Rattle.std.specs.Prelude.{ℕ, ◌-◌, ◌*◌, ◌≤◌, ◌<◌, Bool, false, cond, List, [], length, get_or, take, set, ltb, Float, Some, None}
use Rattle.std.specs.Float.{inf}
use Rattle.loops.specs.Least.{then_by, least_by}
use Rattle.loops.specs.Each.{over}
use Rattle.numbers.specs.Order.{min_of}
use Rattle.geom.specs.Vec.{v2, f0, distance_of}
use Rattle.geom.specs.declared.vec2.Vec2.{Vec2}
use Rattle.pieces.specs.Piece.{Piece, row_at, end_of}
use Rattle.pieces.specs.declared.row.Row.{Row}
use Rattle.passes.specs.Simulate.{nowhere}
use Rattle.passes.specs.Start.{Place, is_nearer}
use Rattle.rounds.specs.declared.next.Candidate.{Candidate}

-- pos.unwrap_or(Vec2::ZERO)
unfoldable pub here_of : Place → Vec2
here_of None = v2 f0 f0
here_of (Some p) = p

-- ---- how far a piece is

-- so.min(q.distance(here))
abbrev pub closer : Vec2 → Vec2 → Float → Float
closer here q so = min_of so (distance_of q here)

-- of a closed piece the nearest point's distance, of an open one the first point's
unfoldable pub piece_far : Piece → Vec2 → Float
piece_far p here = cond p.closed (over (closer here) p.points (inf false)) (distance_of (get_or p.points 0 nowhere) here)

abbrev pub no_piece : Piece
no_piece = record { points = []; closed = false }

-- ---- which of two is cut first

-- what a piece is chosen by, as number k of those left; its points are the smoothed ones
unfoldable pub candidate_of : Piece → Vec2 → ℕ → Candidate
candidate_of p here k = record { far = piece_far p here; points = length p.points; at = k }

abbrev pub candidate_at : List Piece → Vec2 → ℕ → Candidate
candidate_at l here k = candidate_of (get_or l k no_piece) here k

-- in the total order
abbrev pub nearer : Candidate → Candidate → Bool
nearer a b = is_nearer a.far b.far

-- a has more points
abbrev pub longer : Candidate → Candidate → Bool
longer a b = ltb b.points a.points

abbrev pub earlier : Candidate → Candidate → Bool
earlier a b = ltb a.at b.at

-- a is cut before b: the nearer first, of equally near ones the longer, of such the earlier
unfoldable pub comes_before : Candidate → Candidate → Bool
comes_before = then_by nearer (then_by longer earlier)

-- the one that comes before all others (`next-before`, proofs/NextLaws.antt)
unfoldable pub next_of : List Piece → Vec2 → ℕ
next_of l here = least_by comes_before (candidate_at l here) (length l)

-- ---- it is taken out, and the last one takes its place: pieces.swap_remove(k)

unfoldable pub swap_remove : ℕ → List Piece → List Piece
swap_remove k l = take (length l - 1) (set l k (get_or l (length l - 1) no_piece))

-- ---- what callers keep

-- a row of a point or more that lie in the slice pts
pub record Read (r : Row) (pts : List Float) : Type 0 where
  pub some : 1 ≤ r.points
  pub inside : 2 * end_of r ≤ length pts

-- m rows of such pieces
pub record Readable (m : ℕ) (rows : List ℕ) (pts : List Float) : Type 0 where
  pub lent : 3 * m ≤ length rows
  pub each : (k : ℕ) → k < m → Read (row_at rows k) pts
