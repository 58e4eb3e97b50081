-- Smoothing row after row leaves the smoothed pieces. Assumes nothing.
use mathlib.Core.Path.{◌≡◌, refl, sym, ap, ◌∙◌, subst}
use mathlib.Core.Bool.{Bool}
use mathlib.Core.List.{List, [], ◌∷◌, ◌++◌, map}
use Prim.Native.Nat.{ℕ, suc, ◌+◌, ◌*◌, ◌≤◌, ◌<◌}
use native.Mathlib.Omega.{arith}
use lib.ListN.{length}
use lib.Dec.{eqb, ltb}
use lib.Ieee.{Float}
use borrow.Author.Tests.{eqb-true, eqb-false, ltb-true, ltb-false}
use Rattle.loops.proofs.Cases.{by_cases}
use Rattle.loops.proofs.EachLaws.{map_more}
use Rattle.geom.specs.Points.{points}
use Rattle.geom.specs.declared.vec2.Vec2.{Vec2}
use Rattle.geom.proofs.PointLaws.{points-same}
use Rattle.pieces.specs.Piece.{Piece, row, row_at, cut_to, put_row, piece_of, pieces_at, end_of, Laid}
use Rattle.smoothing.specs.Smooth.{smoothed, SmoothedRow, SmoothedAll}
use Rattle.pieces.specs.declared.row.Row.{Row}
use Rattle.pieces.proofs.PieceLaws.{row-length, row_here, row_there, pieces-same}

-- k of the m pieces are smoothed; the others are as they were
pub record SmoothedTo (m : ℕ) (cell : Float) (rows : List ℕ) (pts : List Float) (k : ℕ) (rows' : List ℕ) (pts' : List Float) : Type 0 where
  pub most : k ≤ m
  pub pieces : pieces_at k rows' pts' ≡ map (smoothed cell) (pieces_at k rows pts)
  pub rest : (j : ℕ) → k ≤ j → j < m → piece_of (row_at rows' j) pts' ≡ piece_of (row_at rows j) pts
  pub some : (j : ℕ) → j < m → 0 < (row_at rows j).points → 0 < (row_at rows' j).points
  pub laid : Laid m rows' pts'
  pub rows_long : length rows' ≡ length rows
  pub points-long : length pts' ≡ length pts

piece_is : (f n g m : ℕ) (b : Bool) (v w : List Float) → points f n v ≡ points g m w → piece_of (row f n b) v ≡ piece_of (row g m b) w
unfolding piece_of
piece_is f n g m b v w e = ap (λ (l : List Vec2). (let p : Piece = record { points = l; closed = b } in p)) e

module _ (m : ℕ) (cell : Float) (rows : List ℕ) (pts : List Float) where
  pub smoothed-none : Laid m rows pts → SmoothedTo m cell rows pts 0 rows pts
  unfolding pieces_at
  smoothed-none h = record { most = omega arith; pieces = refl; rest = λ j a b. refl; some = λ j a b. b; laid = h; rows_long = refl; points-long = refl }

  pub smoothed-end : (k : ℕ) (rows' : List ℕ) (pts' : List Float) → m ≤ k → SmoothedTo m cell rows pts k rows' pts' → SmoothedAll m cell rows pts rows' pts'
  smoothed-end k rows' pts' h s =
      let e : k ≡ m = omega (arith, s.most) in
      record {
        pieces = subst (λ (n : ℕ). pieces_at n rows' pts' ≡ map (smoothed cell) (pieces_at n rows pts)) e s.pieces;
        some = s.some;
        laid = s.laid;
        rows_long = s.rows_long;
        points-long = s.points-long;
      }

  module _ (k : ℕ) (rows' : List ℕ) (pts' : List Float) (r : ℕ) (rows'' : List ℕ) (pts'' : List Float) (h : k < m) (s : SmoothedTo m cell rows pts k rows' pts')
      (R : rows'' ≡ put_row k (cut_to r (row_at rows' k)) rows') (P : SmoothedRow cell (row_at rows' k) pts' r pts'') where
    room : 3 * k + 2 < length rows'
    room = omega (arith, s.laid.lent)

    here : row_at rows'' k ≡ cut_to r (row_at rows' k)
    here = ap (λ (l : List ℕ). row_at l k) R ∙ row_here k (cut_to r (row_at rows' k)) rows' room

    there : (j : ℕ) → (j ≡ k → ⊥) → row_at rows'' j ≡ row_at rows' j
    there j n = ap (λ (l : List ℕ). row_at l j) R ∙ row_there k (cut_to r (row_at rows' k)) rows' j n

    -- another row's points are as they were
    kept : (j : ℕ) → j < m → (j ≡ k → ⊥) → piece_of (row_at rows'' j) pts'' ≡ piece_of (row_at rows' j) pts'
    kept j b n =
        ap (λ (q : Row). piece_of q pts'') (there j n)
        ∙ piece_is (row_at rows' j).first (row_at rows' j).points (row_at rows' j).first (row_at rows' j).points (row_at rows' j).closed pts'' pts'
        (points-same (row_at rows' j).first (row_at rows' j).points pts'' pts' (λ i c. by_cases (ltb j k)
        (λ t. P.low ((row_at rows' j).first + i) (omega (arith, s.laid.apart j k (ltb-true j k t) h)))
        (λ t. let d : k < j = (by_cases (eqb j k) (λ e. absurd (n (eqb-true j k e))) (λ e. let ne = eqb-false j k e in apart_of j k (ltb-false j k t) ne)) in
        P.high ((row_at rows' j).first + i) (omega (arith, s.laid.apart k j d b)))))
      where
        apart_of : (j k : ℕ) → k ≤ j → (j ≡ k → ⊥) → k < j
        apart_of j k l ne = by_cases (ltb k j) (ltb-true k j) (λ t. absurd (ne (let z : j ≡ k = omega (arith, ltb-false k j t) in z)))

    done : piece_of (row_at rows'' k) pts'' ≡ smoothed cell (piece_of (row_at rows k) pts)
    unfolding smoothed piece_of
    done =
        ap (λ (q : Row). piece_of q pts'') here
        ∙ ap (λ (l : List Vec2). (let p : Piece = record { points = l; closed = (row_at rows' k).closed } in p)) P.is
        ∙ ap (smoothed cell) (s.rest k (omega arith) h)

    pub smoothed_more : SmoothedTo m cell rows pts (k + 1) rows'' pts''
    unfolding pieces_at
    smoothed_more = record {
      most = omega arith;
      pieces =
          subst (λ (n : ℕ). pieces_at n rows'' pts'' ≡ map (smoothed cell) (pieces_at n rows pts)) (let z : suc k ≡ k + 1 = omega arith in z)
          (ap (λ (l : List Piece). l ++ (piece_of (row_at rows'' k) pts'' ∷ [])) (pieces-same k rows'' rows' pts'' pts' (λ j b. kept j (omega arith) (λ e. omega arith)) ∙ s.pieces)
          ∙ ap (λ (q : Piece). map (smoothed cell) (pieces_at k rows pts) ++ (q ∷ [])) done
          ∙ sym (map_more (smoothed cell) (pieces_at k rows pts) (piece_of (row_at rows k) pts)));
      rest = λ j b c. kept j c (λ e. omega arith) ∙ s.rest j (omega arith) c;
      some = λ j b d. by_cases (eqb j k)
          (λ e. let z = eqb-true j k e in
          subst (λ (n : ℕ). 0 < n) (sym (ap (λ (i : ℕ). (row_at rows'' i).points) z ∙ ap (λ (q : Row). q.points) here))
          (P.some (subst (λ (i : ℕ). 0 < (row_at rows' i).points) z (s.some j b d))))
          (λ e. subst (λ (q : Row). 0 < q.points) (sym (there j (eqb-false j k e))) (s.some j b d));
      laid = record {
        lent = omega (arith, s.laid.lent, ap length R, row-length k (cut_to r (row_at rows' k)) rows');
        inside = λ j b. let z = s.laid.inside j b in omega (arith, ends j, P.long);
        apart = λ i j b c. let z = s.laid.apart i j b c in omega (arith, ends i, firsts j);
      };
      rows_long = ap length R ∙ row-length k (cut_to r (row_at rows' k)) rows' ∙ s.rows_long;
      points-long = P.long ∙ s.points-long;
    }
      where
        firsts : (j : ℕ) → (row_at rows'' j).first ≡ (row_at rows' j).first
        firsts j = by_cases (eqb j k) (λ e. let z = eqb-true j k e in ap (λ (i : ℕ). (row_at rows'' i).first) z ∙ ap (λ (q : Row). q.first) here ∙ ap (λ (i : ℕ). (row_at rows' i).first) (sym z))
            (λ e. ap (λ (q : Row). q.first) (there j (eqb-false j k e)))

        ends : (j : ℕ) → end_of (row_at rows'' j) ≤ end_of (row_at rows' j)
        ends j = by_cases (eqb j k)
            (λ e. let z = eqb-true j k e in
            let a : (row_at rows'' j).points ≡ r = ap (λ (i : ℕ). (row_at rows'' i).points) z ∙ ap (λ (q : Row). q.points) here in
            let b : (row_at rows' j).points ≡ (row_at rows' k).points = ap (λ (i : ℕ). (row_at rows' i).points) z in
            omega (arith, firsts j, a, b, P.few))
            (λ e. omega (arith, ap end_of (there j (eqb-false j k e))))
