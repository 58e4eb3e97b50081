-- Segments inserted end to end into pieces: the second half of `contours` of adaptive.rs. Its hash tables, keyed by edges, are tables by edge number. Definitions only.
use Rattle.std.specs.Prelude.{◌≡◌, ℕ, ◌+◌, ◌*◌, ◌<◌, ◌≤◌, Bool, true, false, cond, not, List, [], ◌∷◌, ◌++◌, map, length, replicate, ◌==◌, nat_eq, slice_index, slice_index_or, slice_set, Float}
use Rattle.loops.specs.Each.{over}
use Rattle.loops.specs.Loop.{loop, Run, on, out, turn}
use Rattle.geom.specs.declared.vec2.Vec2.{Vec2}
use Rattle.contours.specs.declared.square.Segment.{Segment}
use Rattle.geom.specs.Points.{points, put_point}
use Rattle.geom.specs.Region.{vertex_of}
use Rattle.loops.specs.Cells.{ones}
use Rattle.raster.specs.declared.grid.Grid.{Grid}
use Rattle.contours.specs.Edge.{edge, nothing, Between, crossing_at}
use Rattle.contours.specs.Curve.{near, thinned, deduped, added_piece}
use Rattle.pieces.specs.Piece.{Piece}
use Rattle.contours.specs.declared.chain.Trail.{Trail}

-- `next` has the edge that follows an edge. `marks` has a byte for both sets: 1 where the edge is used, 2 where a segment leads into it, else 0. That a segment leads in
-- is asked only of edges that are not used.
pub record Tables : Type 0 where
  pub next : List ℕ
  pub marks : List ℕ

abbrev pub tables : List ℕ → List ℕ → Tables
tables next marks = record { next = next; marks = marks }

-- next.insert(a, b); has_prev.insert(b): of segments that leave one edge, the last one counts
unfoldable pub inserted : Segment → Tables → Tables
inserted s t = tables (slice_set t.next s.from.0 s.to.0) (slice_set t.marks s.to.0 2)

abbrev pub blank : ℕ → Tables
blank e = tables (replicate e nothing) (replicate e 0)

-- the tables of e edges
unfoldable pub tables_of : ℕ → List Segment → Tables
tables_of e segs = over inserted segs (blank e)

-- each edge that follows one is of P
pub record Leads (P : ℕ → Type 0) (next : List ℕ) : Type 0 where
  pub to : (e : ℕ) → e < length next → (slice_index next e == nothing) ≡ false → P (slice_index next e)

-- ---- a chain: the edges from a first one on

pub record Walk : Type 0 where
  pub marks : List ℕ
  pub ids : List ℕ
  pub cur : ℕ

pub record Chain : Type 0 where
  pub marks : List ℕ
  pub ids : List ℕ
  pub closed : Bool

abbrev pub walk : List ℕ → List ℕ → ℕ → Walk
walk marks ids cur = record { marks = marks; ids = ids; cur = cur }

abbrev pub ended : Walk → Bool → Chain
ended w closed = record { marks = w.marks; ids = w.ids; closed = closed }

-- edge n is used, and is the next of the chain
abbrev pub step_to : ℕ → Walk → Walk
step_to n w = walk (slice_set w.marks n 1) (w.ids ++ (n ∷ [])) n

-- A turn of the loop: the chain ends where no edge follows, closed where the first one does, and where a used one does.
unfoldable pub follow : List ℕ → ℕ → ℕ → Walk → Run Walk Chain
follow next s k w =
    let n = slice_index_or next w.cur 0 in
    cond (n == nothing) (out (ended w false)) (cond (n == s) (out (ended w true)) (cond (slice_index w.marks n == 1) (out (ended w false)) (on (step_to n w))))

-- the first case is not met (proofs/ChainLaws.antt)
unfoldable pub chain_of : Run Walk Chain → Chain
chain_of (on w) = ended w false
chain_of (out c) = c

abbrev pub walk_from : List ℕ → ℕ → Walk
walk_from marks s = walk (slice_set marks s 1) (s ∷ []) s

-- the chain from edge s on; each turn uses an edge, so that of e edges e turns are enough
unfoldable pub chain_from : List ℕ → ℕ → List ℕ → ℕ → Chain
chain_from next e marks s = chain_of (loop (turn (follow next s)) 0 e (on (walk_from marks s)))

-- ---- its points

-- the last of points, q where there is none
unfoldable pub last_from : Vec2 → List Vec2 → Vec2
last_from q [] = q
last_from q (p ∷ ps) = last_from p ps

-- the last one that is kept of p and ps
abbrev pub last_kept : Vec2 → List Vec2 → Vec2
last_kept p ps = last_from p (thinned p ps)

-- p is the next point of a chain, unless it is near the last one kept
unfoldable pub extended : Vec2 → Trail → Trail
extended p t = cond (near p t.last) t (record { kept = t.kept + 1; last = p })

unfoldable pub put_kept : ℕ → Vec2 → Trail → List Float → List Float
put_kept first p t w = cond (near p t.last) w (put_point (first + t.kept) p w)

-- the slice holds, from point `first` on, what is kept of q and ps
pub record Trailing (first : ℕ) (q : Vec2) (ps : List Vec2) (t : Trail) (w : List Float) : Type 0 where
  pub is : points first t.kept w ≡ deduped (q ∷ ps)
  pub last : t.last ≡ last_kept q ps

-- ---- a chain in slices

-- where the field crosses the level on edge n
abbrev pub edge_point : Grid → List Float → Float → ℕ → Vec2
edge_point g f level n = crossing_at g f level (edge n)

-- the tables are of the grid's edges, edge s is one and not used, and each point before `first` has a used edge of its own
pub record Chaining (g : Grid) (next marks : List ℕ) (pts : List Float) (first s : ℕ) : Type 0 where
  pub next-long : length next ≡ 2 * (g.ny * g.nx)
  pub marks-long : length marks ≡ 2 * (g.ny * g.nx)
  pub pts-long : 4 * (g.ny * g.nx) ≤ length pts
  pub leads : Leads (λ (n : ℕ). Between g (edge n)) next
  pub start : Between g (edge s)
  pub unused : nat_eq (slice_index marks s) 1 ≡ false
  pub room : first ≤ ones marks

-- The chain from s was followed: its marks, and its points from point `first` on. Points before stay, and each point still has a used edge of its own.
pub record Followed (at : ℕ → Vec2) (next marks : List ℕ) (pts : List Float) (first s : ℕ) (marks' : List ℕ) (pts' : List Float) (kept : ℕ) (closed : Bool) : Type 0 where
  pub marks-is : marks' ≡ (chain_from next (length marks) marks s).marks
  pub points-is : points first kept pts' ≡ deduped (map at (chain_from next (length marks) marks s).ids)
  pub closed_is : closed ≡ (chain_from next (length marks) marks s).closed
  pub before : (j : ℕ) → j < first → vertex_of pts' j ≡ vertex_of pts j
  pub marks-long : length marks' ≡ length marks
  pub pts-long : length pts' ≡ length pts
  pub room : first + kept ≤ ones marks'

-- ---- all chains

pub record Chains : Type 0 where
  pub marks : List ℕ
  pub pieces : List Piece

abbrev pub chains : List ℕ → List Piece → Chains
chains marks pieces = record { marks = marks; pieces = pieces }

-- whether a chain starts at an edge of this mark: at first only where nothing leads in, then wherever it is not used
abbrev pub starts_at : Bool → ℕ → Bool
starts_at first mark = cond first (mark == 0) (not (mark == 1))

module _ (at : ℕ → Vec2) (next : List ℕ) (e : ℕ) where
  -- the chain from s; `at` has the edges' points
  unfoldable pub chained : ℕ → Chains → Chains
  chained s c =
      let k = chain_from next e c.marks s in
      chains k.marks (added_piece (deduped (map at k.ids)) k.closed c.pieces)

  unfoldable pub start_at : Bool → ℕ → Chains → Chains
  start_at first s c = cond (starts_at first (slice_index c.marks s)) (chained s c) c

  -- a chain from the first edge of each segment in turn
  unfoldable pub chain_all : Bool → List Segment → Chains → Chains
  chain_all first segs c = over (λ (s : Segment). start_at first s.from.0) segs c

-- open chains first, then loops
unfoldable pub chained_pieces : (ℕ → Vec2) → ℕ → List Segment → List Piece
chained_pieces at e segs =
    let t = tables_of e segs in
    (chain_all at t.next e false segs (chain_all at t.next e true segs (chains t.marks []))).pieces
