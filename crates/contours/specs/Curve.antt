-- Segments joined end to end into pieces: the second half of `contours` of adaptive.rs, with its map `next` and its sets `has_prev` and `used`. Definitions only.
use Rattle.std.specs.Prelude.{ℕ, ◌*◌, Bool, true, false, cond, not, ◌||◌, List, [], ◌∷◌, ◌++◌, map, length, nat_lt, Float}
use Rattle.std.proofs.Math.Option.{Option, none, some}
use Rattle.std.specs.Float.Ieee.{lt}
use Rattle.numbers.specs.Small.{nano}
use Rattle.loops.specs.Each.{over}
use Rattle.loops.specs.Loop.{loop, Run, on, out, turn}
use Rattle.geom.specs.Vec.{distance_of}
use Rattle.geom.specs.declared.vec2.Vec2.{Vec2}
use Rattle.raster.specs.declared.grid.Grid.{Grid}
use Rattle.pieces.specs.Piece.{Piece}
use Rattle.contours.specs.Edge.{same_edge, crossing_at}
use Rattle.contours.specs.March.{march}
use Rattle.contours.specs.declared.edge.EdgeNo.{EdgeNo}
use Rattle.contours.specs.declared.square.Segment.{Segment}

-- ---- HashSet and HashMap of edges

-- whether an edge is in the set
abbrev pub EdgeSet : Type 0
EdgeSet = EdgeNo → Bool

-- set.insert(e)
unfoldable pub with : EdgeNo → EdgeSet → EdgeSet
with e set k = same_edge k e || set k

-- what the map has for an edge
abbrev pub EdgeMap : Type 0
EdgeMap = EdgeNo → Option EdgeNo

-- map.contains_key(e), by what the map has for e
abbrev pub is_some : Option EdgeNo → Bool
is_some none = false
is_some (some e) = true

-- map.insert(a, b): of two inserted at one edge, the last one counts
unfoldable pub keyed : EdgeNo → EdgeNo → EdgeMap → EdgeMap
keyed a b map k = cond (same_edge k a) (some b) (map k)

-- ---- the edge after an edge, and the edges that a segment leads into

pub record Joints : Type 0 where
  pub next : EdgeMap
  pub has_prev : EdgeSet

-- next.insert(a, b); has_prev.insert(b)
unfoldable pub jointed : Segment → Joints → Joints
jointed s t = record { next = keyed s.from s.to t.next; has_prev = with s.to t.has_prev }

abbrev pub unjointed : Joints
unjointed = record { next = λ e. none; has_prev = λ e. false }

-- for &(a, b) in &segs
unfoldable pub joints_of : List Segment → Joints
joints_of segs = over jointed segs unjointed

-- ---- a curve: the edges from a first one on

-- so far: the edges used by any curve, this one's, and the last of them
pub record Strand : Type 0 where
  pub used : EdgeSet
  pub ids : List EdgeNo
  pub cur : EdgeNo

pub record Curve : Type 0 where
  pub used : EdgeSet
  pub ids : List EdgeNo
  pub closed : Bool

abbrev pub strand : EdgeSet → List EdgeNo → EdgeNo → Strand
strand used ids cur = record { used = used; ids = ids; cur = cur }

abbrev pub curve : Strand → Bool → Curve
curve w closed = record { used = w.used; ids = w.ids; closed = closed }

-- used.insert(n); ids.push(n); cur = n
abbrev pub gone_to : EdgeNo → Strand → Strand
gone_to n w = strand (with n w.used) (w.ids ++ (n ∷ [])) n

-- a turn of `while let Some(&n) = next.get(&cur)`: it ends where no edge follows, closed where the first one does, and where a used one does
unfoldable pub go_to : EdgeNo → Strand → Option EdgeNo → Run Strand Curve
go_to s w none = out (curve w false)
go_to s w (some n) = cond (same_edge n s) (out (curve w true)) (cond (w.used n) (out (curve w false)) (on (gone_to n w)))

unfoldable pub go_on : EdgeMap → EdgeNo → ℕ → Strand → Run Strand Curve
go_on next s k w = go_to s w (next w.cur)

abbrev pub strand_from : EdgeSet → EdgeNo → Strand
strand_from used s = strand (with s used) (s ∷ []) s

-- the first case is not met (proofs/HoldLaws.antt `curve_ends`)
unfoldable pub curve_of : Run Strand Curve → Curve
curve_of (on w) = curve w false
curve_of (out c) = c

-- the curve from edge s on; each turn uses an edge, so that of e edges e turns are enough
unfoldable pub curve_from : EdgeMap → ℕ → EdgeSet → EdgeNo → Curve
curve_from next e used s = curve_of (loop (turn (go_on next s)) 0 e (on (strand_from used s)))

-- ---- its points

abbrev pub near : Vec2 → Vec2 → Bool
near p q = lt (distance_of p q) nano

-- the points after q, which is kept, without those near the last one kept
unfoldable pub thinned : Vec2 → List Vec2 → List Vec2
thinned q [] = []
thinned q (p ∷ ps) = cond (near p q) (thinned q ps) (p ∷ thinned p ps)

-- pts.dedup_by(|a, b| a.distance(*b) < 1e-9)
unfoldable pub deduped : List Vec2 → List Vec2
deduped [] = []
deduped (p ∷ ps) = p ∷ thinned p ps

-- ---- all curves

-- the edges they used, and their pieces
pub record Curves : Type 0 where
  pub used : EdgeSet
  pub pieces : List Piece

abbrev pub curves : EdgeSet → List Piece → Curves
curves used pieces = record { used = used; pieces = pieces }

-- a curve of two points or more is a piece
unfoldable pub added_piece : List Vec2 → Bool → List Piece → List Piece
added_piece ps closed pieces = cond (nat_lt (length ps) 2) pieces (pieces ++ (record { points = ps; closed = closed } ∷ []))

-- segs.iter().map(|s| s.0).filter(|a| !has_prev.contains(a))
unfoldable pub open_starts : EdgeSet → List Segment → List EdgeNo
open_starts has_prev [] = []
open_starts has_prev (s ∷ segs) = cond (has_prev s.from) (open_starts has_prev segs) (s.from ∷ open_starts has_prev segs)

-- segs.iter().map(|s| s.0)
abbrev pub firsts : List Segment → List EdgeNo
firsts segs = map (λ (s : Segment). s.from) segs

module _ (at : EdgeNo → Vec2) (next : EdgeMap) (e : ℕ) where
  -- the curve from s; `at` has the edges' points
  unfoldable pub curved : EdgeNo → Curves → Curves
  curved s c =
      let k = curve_from next e c.used s in
      curves k.used (added_piece (deduped (map at k.ids)) k.closed c.pieces)

  -- if used.contains(&s) || !next.contains_key(&s) { continue }
  unfoldable pub start_from : EdgeNo → Curves → Curves
  start_from s c = cond (c.used s || not (is_some (next s))) c (curved s c)

-- open curves first, where nothing leads in, then loops
unfoldable pub pieces_of : (EdgeNo → Vec2) → ℕ → List Segment → List Piece
pieces_of at e segs =
    let t = joints_of segs in
    (over (start_from at t.next e) (open_starts t.has_prev segs ++ firsts segs) (curves (λ k. false) [])).pieces

-- where the field f crosses the level
unfoldable pub contours_of : Grid → List Float → Float → List Piece
contours_of g f level = pieces_of (crossing_at g f level) (2 * (g.ny * g.nx)) (march g f level)
