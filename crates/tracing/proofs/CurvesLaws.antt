-- What `contours` and `smooth_all` leave in the parts that are lent to them, read in the workspace. Assumes nothing.
use mathlib.Core.Path.{◌≡◌, sym, ap, ◌∙◌, subst}
use mathlib.Core.List.{List, map}
use Prim.Native.Nat.{ℕ, ◌+◌, ◌-◌, ◌*◌, ◌≤◌, ◌<◌}
use native.Mathlib.Omega.{arith}
use lib.ListN.{length, take, drop}
use lib.Ieee.{Float}
use borrow.Rule.Slice.PartMut.{put_mid}
use Rattle.loops.specs.Regions.{Fits, within}
use Rattle.loops.specs.Frame.{Only}
use Rattle.loops.proofs.RegionLaws.{region-long}
use Rattle.loops.proofs.FrameLaws.{back_there, back-only}
use Rattle.setup.specs.Layout.{log_from, rows_from, traced_from, guide_from}
use Rattle.pieces.specs.Piece.{Piece, row_at, pieces_at, end_of, Laid}
use Rattle.pieces.specs.declared.row.Count.{Count}
use Rattle.pieces.proofs.PartLaws.{inner_part}
use Rattle.contours.specs.Places.{rows_in as rows_of}
use Rattle.contours.specs.Traced.{Contoured}
use Rattle.contours.proofs.ContourLaws.{contoured_laid}
use Rattle.smoothing.specs.Smooth.{smoothed, SmoothedAll}
use Rattle.workspace.specs.Lies.{rows_in, traced_in, pieces_in, Lying, Lies}
use Rattle.tracing.specs.Curves.{Room, Laying, Beside}

-- a frame by other names of its ends
only_at : {A : Type 0} (a e c d : ℕ) (w w' : List A) → a ≡ c → e ≡ d → Only a e w w' → Only c d w w'
only_at a e c d w w' p q o = subst (λ (x : ℕ). Only x d w w') p (subst (λ (x : ℕ). Only a x w w') q o)

-- ---- traced

-- k is the code's name for n
module _ (n : ℕ) (b u : List ℕ) (w : List Float) (R : Room n b u w) (k seg log mk tr gd : ℕ) (N : k ≡ n) (A : seg ≡ 15 * k) (B : log ≡ 24 * k) (C : mk ≡ 6 * k) (D : tr ≡ 1 * k) (E : gd ≡ 5 * k) (l : List Piece)
    (words' : List ℕ) (pts' : List Float) (c : Count) (h : Contoured n l (take (log - seg) (drop seg u)) (take (gd - tr) (drop tr w)) words' pts' c) where
  words_fit : Fits seg log u
  words_fit = record { start = omega arith; end = omega (arith, R.words) }

  pts_fit : Fits tr gd w
  pts_fit = record { start = omega arith; end = omega (arith, R.doubles) }

  words_there : within seg log (put_mid seg (log - seg) u words') ≡ words'
  words_there = back_there seg log u words_fit words' h.words_long

  abbrev after : List ℕ
  after = put_mid seg (log - seg) u words'

  abbrev pts-after : List Float
  pts-after = put_mid tr (gd - tr) w pts'

  after-long : length after ≡ length u
  after-long = (back-only seg log u words_fit words' h.words_long).long

  rows_there : rows_in n after ≡ rows_of n words'
  rows_there =
      ap (λ (k : ℕ). within k (24 * n) after) (let z : 21 * n ≡ seg + 6 * n = omega arith in z)
      ∙ ap (λ (k : ℕ). within (seg + 6 * n) k after) (let z : 24 * n ≡ seg + 9 * n = omega arith in z)
      ∙ sym (inner_part 0 seg log (6 * n) (9 * n) after (record { start = omega arith; end = omega (arith, after-long, R.words) }) (omega arith) (omega arith))
      ∙ ap (within (6 * n) (9 * n)) words_there

  pts_there : traced_in n pts-after ≡ pts'
  pts_there =
      ap (λ (i : ℕ). within i (5 * n) pts-after) (let z : 1 * n ≡ tr = omega arith in z) ∙ ap (λ (i : ℕ). within tr i pts-after) (let z : 5 * n ≡ gd = omega arith in z)
      ∙ back_there tr gd w pts_fit pts' h.pts-long

  part_words : length (take (log - seg) (drop seg u)) ≡ 9 * n
  part_words = region-long seg log u words_fit ∙ (let z : log - seg ≡ 9 * n = omega arith in z)

  part_pts : length (take (gd - tr) (drop tr w)) ≡ 4 * n
  part_pts = region-long tr gd w pts_fit ∙ (let z : gd - tr ≡ 4 * n = omega arith in z)

  pub laying : Laying n l c.pieces c.points after pts-after
  laying =
      let P : List ℕ → Type 0 = λ r. (k : ℕ) → k < c.pieces → 1 ≤ (row_at r k).points in
      let Q : List ℕ → Type 0 = λ r. (k : ℕ) → k < c.pieces → end_of (row_at r k) ≤ c.points in
      let inside : Q (rows_in n after) = subst Q (sym rows_there) h.packed.within in
      record {
        lies = record {
          lying = record {
            few = h.pieces-few;
            some = subst P (sym rows_there) (λ k o. omega (arith, h.two k o));
            inside = λ k o. omega (arith, inside k o, h.points-few);
          };
          is = ap (λ (r : List ℕ). pieces_at c.pieces r (traced_in n pts-after)) rows_there ∙ ap (pieces_at c.pieces (rows_of n words')) pts_there ∙ h.is;
        };
        laid =
            subst (λ (r : List ℕ). Laid c.pieces r (traced_in n pts-after)) (sym rows_there)
            (subst (Laid c.pieces (rows_of n words')) (sym pts_there) (contoured_laid n l _ _ words' pts' c part_words (omega (arith, part_pts)) h));
        within = inside;
        few = h.points-few;
      }

  pub beside : (marks' : List ℕ) → length marks' ≡ length (take (mk + 2 * k - mk) (drop mk b)) → Beside n b u w (put_mid mk (mk + 2 * k - mk) b marks') after pts-after
  beside marks' q = record {
    bytes = only_at mk (mk + 2 * k) (6 * n) (8 * n) b _ (omega arith) (omega arith) (back-only mk (mk + 2 * k) b (record { start = omega arith; end = omega (arith, R.bytes) }) marks' q);
    words = only_at seg log (15 * n) (24 * n) u _ (omega arith) (omega arith) (back-only seg log u words_fit words' h.words_long);
    doubles = only_at tr gd (1 * n) (5 * n) w _ (omega arith) (omega arith) (back-only tr gd w pts_fit pts' h.pts-long);
  }

-- ---- smoothed

module _ (n m rows log tr gd : ℕ) (cell : Float) (u : List ℕ) (w : List Float) (U : 32 * n + 8192 ≤ length u) (W : 32 * n + 8192 ≤ length w) (L : Lying n m u) (A : rows ≡ 21 * n) (B : log ≡ 24 * n) (D : tr ≡ 1 * n) (E : gd ≡ 5 * n) where
  rows_fit : Fits rows log u
  rows_fit = record { start = omega arith; end = omega arith }

  places_fit : Fits tr gd w
  places_fit = record { start = omega arith; end = omega arith }

  rows_part_lem : take (log - rows) (drop rows u) ≡ rows_in n u
  unfolding within
  rows_part_lem = ap (λ (k : ℕ). take (log - k) (drop k u)) A ∙ ap (λ (k : ℕ). take (k - 21 * n) (drop (21 * n) u)) B

  pts_part : take (gd - tr) (drop tr w) ≡ traced_in n w
  unfolding within
  pts_part = ap (λ (k : ℕ). take (gd - k) (drop k w)) D ∙ ap (λ (k : ℕ). take (k - 1 * n) (drop (1 * n) w)) E

  -- what `smooth_all` asks for
  pub smooth_laid : Laid m (rows_in n u) (traced_in n w) → Laid m (take (log - rows) (drop rows u)) (take (gd - tr) (drop tr w))
  smooth_laid h = subst (λ (r : List ℕ). Laid m r (take (gd - tr) (drop tr w))) (sym rows_part_lem) (subst (Laid m (rows_in n u)) (sym pts_part) h)

  module _ (rows' : List ℕ) (pts' : List Float) (h : SmoothedAll m cell (take (log - rows) (drop rows u)) (take (gd - tr) (drop tr w)) rows' pts') where
    abbrev u' : List ℕ
    u' = put_mid rows (log - rows) u rows'

    abbrev w' : List Float
    w' = put_mid tr (gd - tr) w pts'

    rows_back : rows_in n u' ≡ rows'
    rows_back = ap (λ (k : ℕ). within k (24 * n) u') (sym A) ∙ ap (λ (k : ℕ). within rows k u') (sym B) ∙ back_there rows log u rows_fit rows' h.rows_long

    pts-back : traced_in n w' ≡ pts'
    pts-back = ap (λ (k : ℕ). within k (5 * n) w') (sym D) ∙ ap (λ (k : ℕ). within tr k w') (sym E) ∙ back_there tr gd w places_fit pts' h.points-long

    traced_long : length pts' ≡ 4 * n
    traced_long = h.points-long ∙ region-long tr gd w places_fit ∙ (let z : gd - tr ≡ 4 * n = omega arith in z)

    pub smoothed-lies : Lies n (map (smoothed cell) (pieces_in n m u w)) m u' w'
    smoothed-lies =
        let P : List ℕ → Type 0 = λ r. (k : ℕ) → k < m → 1 ≤ (row_at r k).points in
        let Q : List ℕ → Type 0 = λ r. (k : ℕ) → k < m → end_of (row_at r k) ≤ 2 * n in
        let had : P (take (log - rows) (drop rows u)) = subst P (sym rows_part_lem) L.some in
        record {
          lying = record {
            few = L.few;
            some = subst P (sym rows_back) (λ k o. omega (arith, h.some k o (omega (arith, had k o))));
            inside = subst Q (sym rows_back) (λ k o. omega (arith, h.laid.inside k o, traced_long));
          };
          is =
              ap (λ (r : List ℕ). pieces_at m r (traced_in n w')) rows_back ∙ ap (pieces_at m rows') pts-back ∙ h.pieces
              ∙ ap (λ (r : List ℕ). map (smoothed cell) (pieces_at m r (take (gd - tr) (drop tr w)))) rows_part_lem
              ∙ ap (λ (p : List Float). map (smoothed cell) (pieces_at m (rows_in n u) p)) pts_part;
        }

    pub smoothed-rows : Only (rows_from n) (log_from n) u u'
    smoothed-rows = only_at rows log _ _ u _ A B (back-only rows log u rows_fit rows' h.rows_long)

    pub smoothed-points : Only (traced_from n) (guide_from n) w w'
    smoothed-points = only_at tr gd _ _ w _ D E (back-only tr gd w places_fit pts' h.points-long)
