-- The steps of `march`'s functions. Assumes nothing.
use Rattle.std.proofs.Common.{◌≡◌, ℕ, ◌+◌, ◌*◌, ◌<◌, Bool, true, false, ◌||◌, eqb, List, [], ◌∷◌, ◌++◌, length, sym, refl, ap, ◌∙◌, subst, arith}
use lib.Ieee.{Float}
use Rattle.raster.specs.declared.grid.Grid.{Grid}
use Rattle.contours.specs.Square.{InGrid, square_at, has_nan, code_of, edges_of, cut_of, saddle_of, joined_of, directed_of}
use Rattle.contours.specs.March.{pushed, pushed_two, march_code, march_square, segments_of, put_segment, Gathered}
use Rattle.contours.specs.declared.square.Square.{Square}
use Rattle.contours.specs.declared.square.Edges.{Edges}
use Rattle.contours.specs.declared.square.Segment.{Segment}
use Rattle.contours.specs.declared.square.Saddle.{Saddle}
use Rattle.contours.proofs.SegmentLaws.{put-length, segments_more}

pub on-square : (g : Grid) (f : List Float) (i j : ℕ) (q : Square) → InGrid g i j → q ≡ square_at g f i j → InGrid g q.i q.j
unfolding square_at
on-square g f i j q h Q = subst (λ (z : Square). InGrid g z.i z.j) (sym Q) h

module _ (g : Grid) (f : List Float) (level : Float) (q : Square) (w : List ℕ) (n code : ℕ) where
  pub code_none : eqb code 0 || eqb code 15 ≡ true → Gathered (march_code g f level q code (segments_of n w)) (n + 2) w n w
  unfolding march_code
  code_none t = record { is = rw t; few = omega arith; long = refl }

  module _ (e : Edges) (E : e ≡ edges_of g q.i q.j) (t : eqb code 0 || eqb code 15 ≡ false) where
    pub code_two : (j : Bool) (s : Saddle) (u : List ℕ) → eqb code 5 || eqb code 10 ≡ true → j ≡ joined_of q level → s ≡ saddle_of e code j → 2 * n + 3 < length w
        → u ≡ put_segment (n + 1) (directed_of g f level q s.second) (put_segment n (directed_of g f level q s.first) w)
        → Gathered (march_code g f level q code (segments_of n w)) (n + 2) w (n + 2) u
    unfolding march_code pushed_two pushed
    code_two j s u b J S h U =
        let a = directed_of g f level q s.first in
        let d = directed_of g f level q s.second in
        let l = put-length n a w in
        let m : segments_of (n + 2) (put_segment (n + 1) d (put_segment n a w)) ≡ (segments_of n w ++ (a ∷ [])) ++ (d ∷ []) =
        ap (λ (k : ℕ). segments_of k (put_segment (n + 1) d (put_segment n a w))) (let z : n + 2 ≡ n + 1 + 1 = omega arith in z)
        ∙ segments_more (n + 1) d (put_segment n a w) (omega arith)
        ∙ ap (λ (z : List Segment). z ++ (d ∷ [])) (segments_more n a w (omega arith)) in
        record {
          is = ap (segments_of (n + 2)) U ∙ m ∙ rw (t, b, ← E, ← J, ← S);
          few = omega arith;
          long = ap length U ∙ put-length (n + 1) d (put_segment n a w) ∙ l;
        }

    pub code_one : (s : Segment) (u : List ℕ) → eqb code 5 || eqb code 10 ≡ false → s ≡ cut_of e code → 2 * n + 3 < length w → u ≡ put_segment n (directed_of g f level q s) w
        → Gathered (march_code g f level q code (segments_of n w)) (n + 2) w (n + 1) u
    unfolding march_code pushed
    code_one s u b S h U =
        let a = directed_of g f level q s in
        record {
          is = ap (segments_of (n + 1)) U ∙ segments_more n a w (omega arith) ∙ rw (t, b, ← E, ← S);
          few = omega arith;
          long = ap length U ∙ put-length n a w;
        }

module _ (g : Grid) (f : List Float) (level : Float) (i j : ℕ) (w : List ℕ) (n : ℕ) (q : Square) (Q : q ≡ square_at g f i j) (t : Bool) (T : t ≡ has_nan q) where
  pub square-none : t ≡ true → Gathered (march_square g f level i j (segments_of n w)) (n + 2) w n w
  unfolding march_square
  square-none h = record { is = rw (← Q, ← T, h); few = omega arith; long = refl }

  pub square-some : t ≡ false → (code r : ℕ) (w' : List ℕ) → code ≡ code_of q level → Gathered (march_code g f level q code (segments_of n w)) (n + 2) w r w'
      → Gathered (march_square g f level i j (segments_of n w)) (n + 2) w r w'
  unfolding march_square
  square-some h code r w' C G = record { is = G.is ∙ rw (← Q, ← T, h, ← C); few = G.few; long = G.long }
