-- Marching squares, as `contours` of adaptive.rs gathers its segments: a list that grows at the end, and how a lent slice holds it. Definitions only.
use Rattle.std.specs.Prelude.{◌≡◌, ℕ, zero, suc, ◌+◌, ◌-◌, ◌*◌, ◌≤◌, cond, ◌||◌, List, [], ◌∷◌, ◌++◌, length, ◌==◌, slice_index, slice_set, Float}
use Rattle.loops.specs.Loop.{loop}
use Rattle.raster.specs.declared.grid.Grid.{Grid}
use Rattle.contours.specs.Square.{square_at, has_nan, code_of, edges_of, segment, cut_of, joined_of, saddle_of, directed_of}
use Rattle.contours.specs.declared.square.Square.{Square}
use Rattle.contours.specs.declared.square.Segment.{Segment}
use Rattle.contours.specs.declared.square.Saddle.{Saddle}

-- push: the segment, turned so that the higher field is on its right, at the end
unfoldable pub pushed : Grid → List Float → Float → Square → Segment → List Segment → List Segment
pushed g f level q s l = l ++ (directed_of g f level q s ∷ [])

unfoldable pub pushed_two : Grid → List Float → Float → Square → Saddle → List Segment → List Segment
pushed_two g f level q t l = pushed g f level q t.second (pushed g f level q t.first l)

-- the match on the code
unfoldable pub march_code : Grid → List Float → Float → Square → ℕ → List Segment → List Segment
march_code g f level q code l =
    let e = edges_of g q.i q.j in
    cond (code == 0 || code == 15) l
    (cond (code == 5 || code == 10) (pushed_two g f level q (saddle_of e code (joined_of q level)) l)
    (pushed g f level q (cut_of e code) l))

-- a square with a NaN at a corner has none
unfoldable pub march_square : Grid → List Float → Float → ℕ → ℕ → List Segment → List Segment
march_square g f level i j l = let q = square_at g f i j in cond (has_nan q) l (march_code g f level q (code_of q level) l)

unfoldable pub march_row : Grid → List Float → Float → ℕ → List Segment → List Segment
march_row g f level j l = loop (λ i. march_square g f level i j) 0 (g.nx - 1) l

unfoldable pub march : Grid → List Float → Float → List Segment
march g f level = loop (march_row g f level) 0 (g.ny - 1) []

-- ---- in a lent slice

-- segment k
unfoldable pub segment_at : List ℕ → ℕ → Segment
segment_at w k = segment (record { 0 = slice_index w (2 * k) }) (record { 0 = slice_index w (2 * k + 1) })

-- the first n segments
unfoldable pub segments_of : ℕ → List ℕ → List Segment
segments_of zero w = []
segments_of (suc n) w = segments_of n w ++ (segment_at w n ∷ [])

-- segment k becomes s
unfoldable pub put_segment : ℕ → Segment → List ℕ → List ℕ
put_segment k s w = slice_set (slice_set w (2 * k) s.from.0) (2 * k + 1) s.to.0

-- the r first of w' are the list l, at most m of them; w' is as long as w, and nothing else is said of it
pub record Gathered (l : List Segment) (m : ℕ) (w : List ℕ) (r : ℕ) (w' : List ℕ) : Type 0 where
  pub is : segments_of r w' ≡ l
  pub few : r ≤ m
  pub long : length w' ≡ length w
