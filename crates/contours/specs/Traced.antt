-- The chains in lent slices: three parts of one slice have the segments, the next edges and the rows of the pieces; marks and points are in slices of their own. Definitions only.
use Rattle.std.specs.Prelude.{◌≡◌, ℕ, ◌+◌, ◌*◌, ◌<◌, ◌≤◌, Bool, false, List, length, nat_eq, slice_index, Float}
use Rattle.loops.specs.Each.{Each, over}
use Rattle.loops.specs.Cells.{ones}
use Rattle.raster.specs.declared.grid.Grid.{Grid}
use Rattle.contours.specs.Edge.{Between, edge}
use Rattle.contours.specs.March.{segments_of}
use Rattle.contours.specs.Places.{words_end, segments_in, next_in, rows_in}
use Rattle.contours.specs.declared.square.Segment.{Segment}
use Rattle.pieces.specs.Piece.{Piece, row_at, pieces_at}
use Rattle.contours.specs.Chain.{tables, inserted, tables_of, Leads, edge_point, Chains, chains, chained, start_at, chain_all}
use Rattle.pieces.specs.declared.row.Count.{Count}

-- the pieces lie one behind the other, within the points
pub record Packed (c : Count) (rows : List ℕ) : Type 0 where
  pub order : (k l : ℕ) → k < l → l < c.pieces → (row_at rows k).first + (row_at rows k).points ≤ (row_at rows l).first
  pub within : (k : ℕ) → k < c.pieces → (row_at rows k).first + (row_at rows k).points ≤ c.points

-- Two points for each piece at least, and a used edge for each point: so neither rows nor points run out.
pub record Tracing (g : Grid) (n : ℕ) (words marks : List ℕ) (pts : List Float) (c : Count) : Type 0 where
  pub cells : n ≡ g.ny * g.nx
  pub words_long : length words ≡ words_end n
  pub marks-long : length marks ≡ 2 * n
  pub pts-long : 4 * n ≤ length pts
  pub leads : Leads (λ (e : ℕ). Between g (edge e)) (next_in n words)
  pub packed : Packed c (rows_in n words)
  pub pairs : 2 * c.pieces ≤ c.points
  pub room : c.points ≤ ones marks

-- the m segments of the words
abbrev pub segments_at : ℕ → ℕ → List ℕ → List Segment
segments_at n m words = segments_of m (segments_in n words)

-- edge s is one of the grid, and not used
pub record Startable (g : Grid) (marks : List ℕ) (s : ℕ) : Type 0 where
  pub start : Between g (edge s)
  pub unused : nat_eq (slice_index marks s) 1 ≡ false

abbrev pub pieces_in : ℕ → Count → List ℕ → List Float → List Piece
pieces_in n c words pts = pieces_at c.pieces (rows_in n words) pts

-- What is left of the slices: the chains are `after`, the segments and the next edges are as they were.
pub record Traced (g : Grid) (n : ℕ) (after : Chains) (words : List ℕ) (pts : List Float) (words' marks' : List ℕ) (pts' : List Float) (c : Count) : Type 0 where
  pub is : chains marks' (pieces_in n c words' pts') ≡ after
  pub tracing : Tracing g n words' marks' pts' c
  pub segments_kept : segments_in n words' ≡ segments_in n words
  pub next-kept : next_in n words' ≡ next_in n words
  pub words_long : length words' ≡ length words
  pub pts-long : length pts' ≡ length pts

-- ---- what the steps do to the chains

-- the slices that chains are traced in
pub record Slices : Type 0 where
  pub words : List ℕ
  pub marks : List ℕ
  pub pts : List Float

abbrev pub slices : List ℕ → List ℕ → List Float → Slices
slices words marks pts = record { words = words; marks = marks; pts = pts }

-- the chains there
abbrev pub chains_in : ℕ → Count → Slices → Chains
chains_in n c w = chains w.marks (pieces_in n c w.words w.pts)

-- w becomes w', whose chains are `after`
abbrev pub Becomes : Grid → ℕ → Chains → Slices → Count → Slices → Type 0
Becomes g n after w c' w' = Traced g n after w.words w.pts w'.words w'.marks w'.pts c'

module _ (g : Grid) (f : List Float) (level : Float) (n : ℕ) where
  -- the chain from edge s is there too
  abbrev pub TakenUp : ℕ → Count → Slices → Count → Slices → Type 0
  TakenUp s c w c' w' = Becomes g n (chained (edge_point g f level) (next_in n w.words) (2 * n) s (chains_in n c w)) w c' w'

  -- or not, where none starts
  abbrev pub Started : Bool → ℕ → Count → Slices → Count → Slices → Type 0
  Started first s c w c' w' = Becomes g n (start_at (edge_point g f level) (next_in n w.words) (2 * n) first s (chains_in n c w)) w c' w'

  -- so from each of the m segments
  abbrev pub AllStarted : Bool → ℕ → Count → Slices → Count → Slices → Type 0
  AllStarted first m c w c' w' = Becomes g n (chain_all (edge_point g f level) (next_in n w.words) (2 * n) first (segments_at n m w.words) (chains_in n c w)) w c' w'

-- ---- the tables

-- a segment of e edges
pub record Below (e : ℕ) (s : Segment) : Type 0 where
  pub from : s.from.0 < e
  pub to : s.to.0 < e

-- m segments of the edges of n cells, and room for the tables
pub record Listed (n m : ℕ) (words marks : List ℕ) : Type 0 where
  pub cells : n ≤ 1048576
  pub words_long : length words ≡ words_end n
  pub marks-long : length marks ≡ 2 * n
  pub few : m ≤ 2 * n
  pub below : Each (Below (2 * n)) (segments_at n m words)

-- the segments are in the tables, and as they were
pub record Inserted (n m : ℕ) (words marks words' marks' : List ℕ) : Type 0 where
  pub is : tables (next_in n words') marks' ≡ over inserted (segments_at n m words) (tables (next_in n words) marks)
  pub kept : segments_in n words' ≡ segments_in n words
  pub words_long : length words' ≡ length words
  pub marks-long : length marks' ≡ length marks

-- the slices for the n cells of a grid
pub record Sized (g : Grid) (n : ℕ) (words marks : List ℕ) : Type 0 where
  pub cells : n ≡ g.ny * g.nx
  pub words_long : length words ≡ words_end n
  pub marks-long : length marks ≡ 2 * n

-- the m segments are the list `segs`, and the tables are theirs
pub record Tabled (g : Grid) (n : ℕ) (segs : List Segment) (m : ℕ) (words marks : List ℕ) : Type 0 where
  pub is : segments_at n m words ≡ segs
  pub table : tables (next_in n words) marks ≡ tables_of (2 * n) segs
  pub few : m ≤ 2 * n
  pub sized : Sized g n words marks

abbrev pub TwoPoints : Piece → Type 0
TwoPoints p = 2 ≤ length p.points

-- The pieces are the list `l`, one behind the other: at most n of them, each of two points or more, and at most 2 n points. The slices keep their lengths.
pub record Contoured (n : ℕ) (l : List Piece) (words : List ℕ) (pts : List Float) (words' : List ℕ) (pts' : List Float) (c : Count) : Type 0 where
  pub is : pieces_in n c words' pts' ≡ l
  pub packed : Packed c (rows_in n words')
  pub two : (k : ℕ) → k < c.pieces → 2 ≤ (row_at (rows_in n words') k).points
  pub pieces-few : c.pieces ≤ n
  pub points-few : c.points ≤ 2 * n
  pub words_long : length words' ≡ length words
  pub pts-long : length pts' ≡ length pts
