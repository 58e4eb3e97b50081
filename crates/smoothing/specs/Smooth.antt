-- Smoothing of a traced curve, as `smooth` of adaptive.rs: three passes of averaging with the neighbours, then points closer than a cell to the last one
-- kept are dropped. Definitions only.
use Rattle.std.specs.Prelude.{ℕ, ◌+◌, ◌-◌, ◌≤◌, ◌<◌, ◌≡◌, Bool, false, cond, ◌&&◌, ◌||◌, List, [], ◌∷◌, ◌++◌, map, length, get_or, set, eqb, ltb, Float}
use Rattle.std.specs.Float.{nan}
use Rattle.std.specs.Float.Ieee.{le, eq}
use Rattle.loops.specs.Loop.{loop}
use Rattle.numbers.specs.Small.{half, quarter}
use Rattle.geom.specs.Vec.{v2, sum, scaled, distance_of}
use Rattle.geom.specs.Region.{vertex_of, before, after}
use Rattle.geom.specs.Points.{put_point, points}
use Rattle.geom.specs.declared.vec2.Vec2.{Vec2}
use Rattle.pieces.specs.Piece.{Piece, row_at, pieces_at, end_of, Laid}
use Rattle.pieces.specs.declared.row.Row.{Row}

abbrev pub nth : List Vec2 → ℕ → Vec2
nth ps k = get_or ps k (v2 nan nan)

abbrev pub last_point : List Vec2 → Vec2
last_point ps = nth ps (length ps - 1)

-- ---- averaging

-- p * 0.5 + (a + b) * 0.25
unfoldable pub mean_of : Vec2 → Vec2 → Vec2 → Vec2
mean_of p a b = sum (scaled p half) (scaled (sum a b) quarter)

-- the ends of an open piece are held
unfoldable pub held_at : Bool → ℕ → ℕ → Bool
held_at closed n k = cond closed false (eqb k 0 || eqb k (n - 1))

-- point k of the n old ones is averaged with its neighbours, modulo n
unfoldable pub average_at : Bool → ℕ → List Vec2 → ℕ → List Vec2 → List Vec2
average_at closed n old k ps =
    cond (held_at closed n k) ps (set ps k (mean_of (nth old k) (nth old (before n k)) (nth old (after n k))))

unfoldable pub averaged : Bool → List Vec2 → List Vec2
averaged closed old = loop (average_at closed (length old) old) 0 (length old) old

-- ---- resampling

-- point k is kept if it is at least a cell from the last one kept
unfoldable pub keep_at : Float → List Vec2 → ℕ → List Vec2 → List Vec2
keep_at cell ps k out = cond (le cell (distance_of (last_point out) (nth ps k))) (out ++ (nth ps k ∷ [])) out

unfoldable pub spaced : Float → List Vec2 → List Vec2
spaced cell ps = loop (keep_at cell ps) 1 (length ps) (nth ps 0 ∷ [])

-- as the Rust compares points
unfoldable pub same_point : Vec2 → Vec2 → Bool
same_point a b = eq a.x b.x && eq a.y b.y

-- an open piece ends at p
unfoldable pub ended_at : Bool → Vec2 → List Vec2 → List Vec2
ended_at closed p out = cond closed out (cond (same_point (last_point out) p) out (out ++ (p ∷ [])))

unfoldable pub resampled : Bool → Float → List Vec2 → List Vec2
resampled closed cell ps = ended_at closed (last_point ps) (spaced cell ps)

-- ---- a piece

unfoldable pub smooth_of : Bool → Float → List Vec2 → List Vec2
smooth_of closed cell ps = cond (ltb (length ps) 3) ps (resampled closed cell (loop (λ t q. averaged closed q) 0 3 ps))

unfoldable pub smoothed : Float → Piece → Piece
smoothed cell p = record { points = smooth_of p.closed cell p.points; closed = p.closed }

abbrev pub HasPoints : Piece → Type 0
HasPoints p = 0 < length p.points

-- ---- in a lent slice

-- the slice, and the old value of the point before the one to come
pub record Averaging : Type 0 where
  pub slice : List Float
  pub prev : Vec2

abbrev pub avg : List Float → Vec2 → Averaging
avg w p = record { slice = w; prev = p }

-- the old point after point k
unfoldable pub next_of : ℕ → ℕ → Vec2 → List Float → Vec2
next_of n k first w = cond (eqb (k + 1) n) first (vertex_of w (k + 1))

-- point k of n is averaged in place; `first` is the old first point
unfoldable pub average_put : Bool → ℕ → Vec2 → ℕ → Averaging → Averaging
average_put closed n first k s =
    let w = s.slice in
    avg (cond (held_at closed n k) w (put_point k (mean_of (vertex_of w k) s.prev (next_of n k first w)) w)) (vertex_of w k)

-- the slice, and how many of its points are kept
pub record Keeping : Type 0 where
  pub slice : List Float
  pub kept : ℕ

abbrev pub kpt : List Float → ℕ → Keeping
kpt w n = record { slice = w; kept = n }

-- point k is kept in place, or not
unfoldable pub keep_put : Float → ℕ → Keeping → Keeping
keep_put cell k s =
    let w = s.slice in
    let p = vertex_of w k in
    cond (le cell (distance_of (vertex_of w (s.kept - 1)) p)) (kpt (put_point s.kept p w) (s.kept + 1)) s

-- the first r points of t are the list l, at most n of them; t is as long as w
pub record Begins (l : List Vec2) (n : ℕ) (w : List Float) (r : ℕ) (t : List Float) : Type 0 where
  pub is : points 0 r t ≡ l
  pub few : r ≤ n
  pub long : length t ≡ length w

-- ---- the pieces of lent rows and points

-- r points of row p are left in v, one at least of a row that has any; v is as w beside the row's points
pub record SmoothedRow (cell : Float) (p : Row) (w : List Float) (r : ℕ) (v : List Float) : Type 0 where
  pub is : points p.first r v ≡ smooth_of p.closed cell (points p.first p.points w)
  pub few : r ≤ p.points
  pub some : 0 < p.points → 0 < r
  pub low : (j : ℕ) → j < p.first → vertex_of v j ≡ vertex_of w j
  pub high : (j : ℕ) → end_of p ≤ j → vertex_of v j ≡ vertex_of w j
  pub long : length v ≡ length w

-- the m pieces are smoothed, none that has points loses all, and they still lie one behind the other in slices as long as they were
pub record SmoothedAll (m : ℕ) (cell : Float) (rows : List ℕ) (pts : List Float) (rows' : List ℕ) (pts' : List Float) : Type 0 where
  pub pieces : pieces_at m rows' pts' ≡ map (smoothed cell) (pieces_at m rows pts)
  pub some : (k : ℕ) → k < m → 0 < (row_at rows k).points → 0 < (row_at rows' k).points
  pub laid : Laid m rows' pts'
  pub rows_long : length rows' ≡ length rows
  pub points-long : length pts' ≡ length pts
