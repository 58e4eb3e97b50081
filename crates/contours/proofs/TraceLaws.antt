-- A chain that is taken up, in the slices: a piece more at the end, or none. Assumes nothing.
use Rattle.std.proofs.Common.{◌≡◌, ℕ, suc, ◌+◌, ◌-◌, ◌*◌, ◌<◌, ◌≤◌, Bool, ltb, List, [], ◌∷◌, ◌++◌, map, length, sym, refl, ap, ◌∙◌, subst, arith, ltb-false, ltb-true, le-ltb, lt-ltb}
use lib.Ieee.{Float}
use Rattle.loops.specs.Regions.{Fits, within, put}
use Rattle.loops.proofs.RegionLaws.{region-long, put_back, put-before, put-length}
use Rattle.loops.proofs.CellLaws.{ones_le}
use Rattle.loops.proofs.Cases.{by_cases}
use Rattle.geom.specs.Points.{points}
use Rattle.geom.specs.declared.vec2.Vec2.{Vec2}
use Rattle.geom.proofs.PointLaws.{points-length, points-same}
use Rattle.raster.specs.declared.grid.Grid.{Grid}
use Rattle.pieces.specs.Piece.{Piece, row, row_at, put_row, piece_of, pieces_at}
use Rattle.contours.specs.Chain.{Chain, chain_from, Chains, chains, chained, Chaining, Followed}
use Rattle.contours.specs.Curve.{deduped, added_piece}
use Rattle.contours.specs.Traced.{Packed, Tracing, Startable, pieces_in, Traced}
use Rattle.contours.specs.Places.{next_at, rows_at, words_end, segments_in, next_in, rows_in}
use Rattle.pieces.specs.declared.row.Count.{Count}
use Rattle.pieces.specs.declared.row.Row.{Row}
use Rattle.pieces.proofs.PieceLaws.{row_here, row_there, row-length, pieces-same, pieces_more}

abbrev count : ℕ → ℕ → Count
count pieces points = record { pieces = pieces; points = points }

added_few : (ps : List Vec2) (closed : Bool) (l : List Piece) → length ps < 2 → added_piece ps closed l ≡ l
unfolding added_piece
added_few ps closed l h = rw (lt-ltb (length ps) 2 h) refl

added_piece_lem : (ps : List Vec2) (closed : Bool) (l : List Piece) → 2 ≤ length ps → added_piece ps closed l ≡ l ++ (record { points = ps; closed = closed } ∷ [])
unfolding added_piece
added_piece_lem ps closed l h = rw (le-ltb (length ps) 2 h) refl

-- ---- the parts

part_long : (a e : ℕ) (w : List ℕ) → a ≤ e → e ≤ length w → length (within a e w) ≡ e - a
unfolding within
part_long a e w h k = region-long a e w (record { start = h; end = k })

module _ (g : Grid) (n : ℕ) (words marks : List ℕ) (pts : List Float) (c : Count) (h : Tracing g n words marks pts c) where
  pub next-long : length (next_in n words) ≡ 2 * n
  next-long = let l = h.words_long in part_long (next_at n) (rows_at n) words (omega arith) (omega arith) ∙ (let z : rows_at n - next_at n ≡ 2 * n = omega arith in z)

  pub rows_long : length (rows_in n words) ≡ 3 * n
  rows_long = let l = h.words_long in part_long (rows_at n) (words_end n) words (omega arith) (omega arith) ∙ (let z : words_end n - rows_at n ≡ 3 * n = omega arith in z)

  -- what `chain` asks
  pub chaining : (s : ℕ) → Startable g marks s → Chaining g (next_in n words) marks pts c.points s
  chaining s k =
      let e = h.cells in
      record {
        next-long = next-long ∙ ap (λ (m : ℕ). 2 * m) e;
        marks-long = h.marks-long ∙ ap (λ (m : ℕ). 2 * m) e;
        pts-long = subst (λ (m : ℕ). 4 * m ≤ length pts) e h.pts-long;
        leads = h.leads;
        start = k.start;
        unused = k.unused;
        room = h.room;
      }

  module _ (at : ℕ → Vec2) (s : ℕ) (marks' : List ℕ) (pts' : List Float) (kept : ℕ) (closed : Bool) (f : Followed at (next_in n words) marks pts c.points s marks' pts' kept closed) where
    abbrev from : Chain
    from = chain_from (next_in n words) (length marks) marks s

    -- the pieces that were there have their points as before
    old_pieces : pieces_at c.pieces (rows_in n words) pts' ≡ pieces_at c.pieces (rows_in n words) pts
    unfolding piece_of
    old_pieces = pieces-same c.pieces (rows_in n words) (rows_in n words) pts' pts (λ k b.
        let r = row_at (rows_in n words) k in
        let w = h.packed.within k b in
        ap (λ (l : List Vec2). record { points = l; closed = r.closed }) (points-same r.first r.points pts' pts (λ i d. f.before (r.first + i) (omega arith))))

    chained-is : chained at (next_in n words) (length marks) s (chains marks (pieces_in n c words pts)) ≡ chains marks' (added_piece (points c.points kept pts') closed (pieces_in n c words pts'))
    unfolding chained
    chained-is =
        ap (λ (m : List ℕ). chains m (added_piece (deduped (map at from.ids)) from.closed (pieces_in n c words pts))) (sym f.marks-is)
        ∙ ap (λ (l : List Vec2). chains marks' (added_piece l from.closed (pieces_in n c words pts))) (sym f.points-is)
        ∙ ap (λ (b : Bool). chains marks' (added_piece (points c.points kept pts') b (pieces_in n c words pts))) (sym f.closed_is)
        ∙ ap (λ (l : List Piece). chains marks' (added_piece (points c.points kept pts') closed l)) (sym old_pieces)

    abbrev after : Chains
    after = chained at (next_in n words) (2 * n) s (chains marks (pieces_in n c words pts))

    after_is : after ≡ chains marks' (added_piece (points c.points kept pts') closed (pieces_in n c words pts'))
    after_is = ap (λ (e : ℕ). chained at (next_in n words) e s (chains marks (pieces_in n c words pts))) (sym h.marks-long) ∙ chained-is

    pub points-few : c.points + kept ≤ 2 * n
    points-few = let r = f.room in let m = f.marks-long in let l = h.marks-long in omega (arith, ones_le marks')

    -- too short for a piece
    pub traced_none : kept < 2 → Traced g n after words pts words marks' pts' c
    traced_none b = record {
      is = sym (after_is ∙ ap (chains marks') (added_few (points c.points kept pts') closed (pieces_in n c words pts') (omega (arith, points-length c.points kept pts'))));
      tracing = record {
        cells = h.cells;
        words_long = h.words_long;
        marks-long = f.marks-long ∙ h.marks-long;
        pts-long = omega (arith, f.pts-long, h.pts-long);
        leads = h.leads;
        packed = h.packed;
        pairs = h.pairs;
        room = omega (arith, f.room);
      };
      segments_kept = refl;
      next-kept = refl;
      words_long = refl;
      pts-long = f.pts-long;
    }

    abbrev fresh : Row
    fresh = row c.points kept closed

    abbrev rows' : List ℕ
    rows' = put_row c.pieces fresh (rows_in n words)

    abbrev next-count : Count
    next-count = count (c.pieces + 1) (c.points + kept)

    -- a row is left for the piece
    pub row_room : 2 ≤ kept → 3 * c.pieces + 2 < length (rows_in n words)
    row_room b = let p = h.pairs in omega (arith, points-few, rows_long)

    packed_more : 2 ≤ kept → Packed next-count rows'
    packed_more b = record {
      order = λ k l o d. by_cases (ltb l c.pieces)
          (λ t. let i = ltb-true l c.pieces t in
          rw (row_there c.pieces fresh (rows_in n words) k (λ e. omega arith), row_there c.pieces fresh (rows_in n words) l (λ e. omega arith)) (h.packed.order k l o i))
          (λ t. let i : l ≡ c.pieces = omega (arith, ltb-false l c.pieces t) in
          rw (i, row_here c.pieces fresh (rows_in n words) (row_room b), row_there c.pieces fresh (rows_in n words) k (λ e. omega arith)) (h.packed.within k (omega arith)));
      within = λ k d. by_cases (ltb k c.pieces)
          (λ t. let i = ltb-true k c.pieces t in
          rw (row_there c.pieces fresh (rows_in n words) k (λ e. omega arith)) (let w = h.packed.within k i in omega arith))
          (λ t. let i : k ≡ c.pieces = omega (arith, ltb-false k c.pieces t) in
          rw (i, row_here c.pieces fresh (rows_in n words) (row_room b)) (omega arith));
    }

    pub traced_more : 2 ≤ kept → (words' : List ℕ) → words' ≡ put (rows_at n) (words_end n) rows' words → Traced g n after words pts words' marks' pts' next-count
    unfolding piece_of
    traced_more b words' e =
        let l = h.words_long in
        let fits : Fits (rows_at n) (words_end n) words = record { start = omega arith; end = omega arith } in
        let long : length rows' ≡ words_end n - rows_at n = omega (arith, row-length c.pieces fresh (rows_in n words), rows_long) in
        let back : rows_in n words' ≡ rows' = ap (rows_in n) e ∙ put_back (rows_at n) (words_end n) words rows' fits long in
        let segs : segments_in n words' ≡ segments_in n words = ap (segments_in n) e ∙ put-before (rows_at n) (words_end n) words rows' fits long 0 (next_at n) (omega arith) (omega arith) in
        let next : next_in n words' ≡ next_in n words = ap (next_in n) e ∙ put-before (rows_at n) (words_end n) words rows' fits long (next_at n) (rows_at n) (omega arith) (omega arith) in
        let len : length words' ≡ length words = ap length e ∙ put-length (rows_at n) (words_end n) words rows' fits long in
        let pieces : pieces_at (c.pieces + 1) rows' pts' ≡ pieces_in n c words pts' ++ (record { points = points c.points kept pts'; closed = closed } ∷ []) =
        ap (λ (m : ℕ). pieces_at m rows' pts') (let z : c.pieces + 1 ≡ suc c.pieces = omega arith in z) ∙ pieces_more c.pieces fresh (rows_in n words) pts' (row_room b) in
        record {
          is = ap (λ (r : List ℕ). chains marks' (pieces_at (c.pieces + 1) r pts')) back
              ∙ ap (chains marks') pieces
              ∙ sym (after_is ∙ ap (chains marks') (added_piece_lem (points c.points kept pts') closed (pieces_in n c words pts') (omega (arith, points-length c.points kept pts'))));
          tracing = record {
            cells = h.cells;
            words_long = len ∙ l;
            marks-long = f.marks-long ∙ h.marks-long;
            pts-long = omega (arith, f.pts-long, h.pts-long);
            leads = rw next h.leads;
            packed = rw back (packed_more b);
            pairs = let p = h.pairs in omega arith;
            room = f.room;
          };
          segments_kept = segs;
          next-kept = next;
          words_long = len;
          pts-long = f.pts-long;
        }

-- ---- the same with the places as they were worked out

pub followed_there : (n : ℕ) (words : List ℕ) (at : ℕ → Vec2) (marks : List ℕ) (pts : List Float) (first s : ℕ) (marks' : List ℕ) (pts' : List Float) (kept : ℕ) (closed : Bool) (x y : ℕ)
    → x ≡ next_at n → y ≡ rows_at n → Followed at (within x y words) marks pts first s marks' pts' kept closed → Followed at (next_in n words) marks pts first s marks' pts' kept closed
followed_there n words at marks pts first s marks' pts' kept closed x y X Y f =
    subst (λ (k : ℕ). Followed at (within (next_at n) k words) marks pts first s marks' pts' kept closed) Y
    (subst (λ (k : ℕ). Followed at (within k y words) marks pts first s marks' pts' kept closed) X f)

pub rows_there : (n : ℕ) (words : List ℕ) (k : ℕ) (r : Row) (y z : ℕ) → y ≡ rows_at n → z ≡ words_end n
    → put y z (put_row k r (within y z words)) words ≡ put (rows_at n) (words_end n) (put_row k r (rows_in n words)) words
rows_there n words k r y z Y Z =
    ap (λ (i : ℕ). put i z (put_row k r (within i z words)) words) Y ∙ ap (λ (i : ℕ). put (rows_at n) i (put_row k r (within (rows_at n) i words)) words) Z
