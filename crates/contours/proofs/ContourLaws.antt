-- Two passes over the segments give the pieces: open chains, then loops. Assumes nothing.
use Rattle.std.proofs.Common.{◌≡◌, ℕ, ◌+◌, ◌-◌, ◌*◌, ◌<◌, ◌≤◌, true, false, List, [], length, get_or, sym, ap, ◌∙◌, subst, arith}
use lib.Ieee.{Float}
use Rattle.loops.proofs.EachLaws.{each_all}
use Rattle.loops.specs.Each.{Each}
use Rattle.loops.specs.Regions.{within}
use Rattle.loops.proofs.CellLaws.{ones_le}
use Rattle.loops.proofs.RegionLaws.{region-long}
use Rattle.geom.specs.declared.vec2.Vec2.{Vec2}
use Rattle.raster.specs.Grid.{Sides}
use Rattle.raster.specs.declared.grid.Grid.{Grid}
use Rattle.contours.specs.Edge.{Between, edge}
use Rattle.contours.specs.Square.{Joins}
use Rattle.contours.specs.March.{segments_of, march}
use Rattle.geom.specs.Points.{points}
use Rattle.geom.proofs.PointLaws.{points-length}
use Rattle.pieces.specs.Piece.{Piece, row_at, piece_of, pieces_at, Laid}
use Rattle.pieces.proofs.PieceLaws.{each_piece, row-points}
use Rattle.contours.specs.Chain.{Tables, tables_of, Leads, edge_point, Chains, chains, chain_all, chained_pieces}
use Rattle.contours.specs.Curve.{contours_of}
use Rattle.contours.specs.Traced.{pieces_in, segments_at, Tracing, Traced, Tabled, TwoPoints, Contoured}
use Rattle.contours.specs.Places.{rows_at, words_end, next_in, rows_in}
use Rattle.pieces.specs.declared.row.Count.{Count}
use Rattle.contours.specs.declared.square.Segment.{Segment}
use Rattle.contours.proofs.JoinLaws.{march_joins}
use Rattle.contours.proofs.ChainLaws.{tables_lead}
use Rattle.contours.proofs.HoldLaws.{contours_held}
use Rattle.contours.proofs.CurveLaws.{contours_two}

abbrev zero_count : Count
zero_count = record { pieces = 0; points = 0 }

module _ (g : Grid) (f : List Float) (level : Float) (n m : ℕ) (w m₁ : List ℕ) (h : Tabled g n (march g f level) m w m₁) where
  -- the segments join edges of the grid
  pub tabled_joins : Each (Joins g) (segments_at n m w)
  tabled_joins = subst (Each (Joins g)) (sym h.is) (march_joins g f level)

  leads : Leads (λ (e : ℕ). Between g (edge e)) (next_in n w)
  leads =
      subst (Leads (λ (e : ℕ). Between g (edge e))) (sym (ap (λ (t : Tables). t.next) h.table))
      (tables_lead (λ (e : ℕ). Between g (edge e)) (2 * n) (march g f level) (each_all (Joins g) _ (λ s j. j.to) (march g f level) (march_joins g f level)))

  -- nothing is traced yet
  pub tracing-none : (pts : List Float) → 4 * n ≤ length pts → Tracing g n w m₁ pts zero_count
  tracing-none pts l = record {
    cells = h.sized.cells;
    words_long = h.sized.words_long;
    marks-long = h.sized.marks-long;
    pts-long = l;
    leads = leads;
    packed = record { order = λ k l a b. absurd (let z : ⊥ = omega arith in z); within = λ k a. absurd (let z : ⊥ = omega arith in z) };
    pairs = omega arith;
    room = omega arith;
  }

  abbrev at : ℕ → Vec2
  at = edge_point g f level

  abbrev segs : List Segment
  segs = march g f level

  module _ (pts : List Float) (w₂ m₂ : List ℕ) (p₂ : List Float) (c₂ : Count) (t : Traced g n (chain_all at (next_in n w) (2 * n) true (segments_at n m w) (chains m₁ (pieces_in n zero_count w pts))) w pts w₂ m₂ p₂ c₂) where
    pub again_joins : Each (Joins g) (segments_at n m w₂)
    again_joins = subst (λ (l : List ℕ). Each (Joins g) (segments_of m l)) (sym t.segments_kept) tabled_joins

    -- the chains after the first pass, by the definition's tables
    first-is : chains m₂ (pieces_in n c₂ w₂ p₂) ≡ chain_all at (tables_of (2 * n) segs).next (2 * n) true segs (chains (tables_of (2 * n) segs).marks [])
    unfolding pieces_at
    first-is =
        t.is
        ∙ ap (λ (l : List Segment). chain_all at (next_in n w) (2 * n) true l (chains m₁ [])) h.is
        ∙ ap (λ (q : Tables). chain_all at q.next (2 * n) true segs (chains q.marks [])) h.table

    pub contoured : Sides g → (words : List ℕ) → length w ≡ length words → (w₃ m₃ : List ℕ) (p₃ : List Float) (c₃ : Count)
        → Traced g n (chain_all at (next_in n w₂) (2 * n) false (segments_at n m w₂) (chains m₂ (pieces_in n c₂ w₂ p₂))) w₂ p₂ w₃ m₃ p₃ c₃
        → Contoured n (contours_of g f level) words pts w₃ p₃ c₃
    unfolding chained_pieces piece_of
    contoured sides words l w₃ m₃ p₃ c₃ u =
        let q = u.tracing in
        let next : next_in n w₂ ≡ (tables_of (2 * n) segs).next = t.next-kept ∙ ap (λ (k : Tables). k.next) h.table in
        let list : segments_at n m w₂ ≡ segs = ap (segments_of m) t.segments_kept ∙ h.is in
        let pieces : pieces_in n c₃ w₃ p₃ ≡ contours_of g f level =
        ap (λ (k : Chains). k.pieces)
        (u.is
        ∙ ap (chain_all at (next_in n w₂) (2 * n) false (segments_at n m w₂)) first-is
        ∙ ap (λ (x : List Segment). chain_all at (next_in n w₂) (2 * n) false x (chain_all at (tables_of (2 * n) segs).next (2 * n) true segs (chains (tables_of (2 * n) segs).marks []))) list
        ∙ ap (λ (x : List ℕ). chain_all at x (2 * n) false segs (chain_all at (tables_of (2 * n) segs).next (2 * n) true segs (chains (tables_of (2 * n) segs).marks []))) next)
        ∙ ap (λ (k : ℕ). chained_pieces at (2 * k) segs) h.sized.cells
        ∙ sym (contours_held g f level sides) in
        record {
          is = pieces;
          packed = q.packed;
          two = λ k b. subst (λ (m : ℕ). 2 ≤ m) (points-length _ _ p₃) (each_piece TwoPoints c₃.pieces (rows_in n w₃) p₃ (subst (Each TwoPoints) (sym pieces) (contours_two g f level)) k b);
          pieces-few = omega (arith, q.pairs, q.room, q.marks-long, ones_le m₃);
          points-few = omega (arith, q.room, q.marks-long, ones_le m₃);
          words_long = u.words_long ∙ t.words_long ∙ l;
          pts-long = u.pts-long ∙ t.pts-long;
        }

-- for the number of cells that the grid has
pub contoured_cells : (g : Grid) (n : ℕ) (l : List Piece) (words : List ℕ) (pts : List Float) (words' : List ℕ) (pts' : List Float) (c : Count) → n ≡ g.ny * g.nx
    → Contoured n l words pts words' pts' c → Contoured (g.ny * g.nx) l words pts words' pts' c
contoured_cells g n l words pts words' pts' c e = subst (λ (k : ℕ). Contoured k l words pts words' pts' c) e

-- ---- the pieces of a contour are laid so

pub contoured_laid : (n : ℕ) (l : List Piece) (words : List ℕ) (pts : List Float) (words' : List ℕ) (pts' : List Float) (c : Count) → length words ≡ words_end n → 4 * n ≤ length pts
    → Contoured n l words pts words' pts' c → Laid c.pieces (rows_in n words') pts'
unfolding within
contoured_laid n l words pts words' pts' c w p r =
    let rows : length (rows_in n words') ≡ words_end n - rows_at n = region-long (rows_at n) (words_end n) words' (record { start = omega arith; end = omega (arith, r.words_long) }) in
    record {
      lent = omega (arith, rows, r.pieces-few);
      inside = λ k h. omega (arith, r.packed.within k h, r.points-few, r.pts-long);
      apart = λ j k h d. r.packed.order j k h d;
    }

-- the points of row k, read where they stand in a longer slice, are those of piece k
pub contour_points : (n : ℕ) (l : List Piece) (words : List ℕ) (pts : List Float) (words' : List ℕ) (a e : ℕ) (w : List Float) (c : Count) (k : ℕ) (d : Piece) → a + 4 * n ≤ e
    → Contoured n l words pts words' (within a e w) c → k < c.pieces → let r = row_at (rows_in n words') k in
    points 0 r.points (within (a + 2 * r.first) (a + 2 * r.first + 2 * r.points) w) ≡ (get_or l k d).points
contour_points n l words pts words' a e w c k d b h o = row-points c.pieces k (rows_in n words') a e w l d h.is o (omega (arith, h.packed.within k o, h.points-few))
