-- The part of a row's points, smoothed and back. Assumes nothing.
use mathlib.Core.Path.{◌≡◌, refl, sym, ap, ◌∙◌, subst}
use mathlib.Core.List.{List}
use Prim.Native.Nat.{ℕ, ◌+◌, ◌-◌, ◌*◌, ◌≤◌, ◌<◌}
use lib.ListN.{length, take, drop}
use lib.Ieee.{Float}
use borrow.Rule.Slice.PartMut.{put_mid}
use Rattle.loops.specs.Regions.{within, put}
use Rattle.loops.proofs.RegionLaws.{region-long, put_is, put-length}
use Rattle.geom.specs.Region.{vertex_of}
use Rattle.geom.specs.Points.{points}
use Rattle.geom.proofs.PointLaws.{points-length}
use Rattle.smoothing.specs.Smooth.{smooth_of, Begins, SmoothedRow}
use Rattle.pieces.specs.Piece.{end_of}
use Rattle.pieces.specs.declared.row.Row.{Row}
use Rattle.pieces.proofs.PartLaws.{part_fits, part_points, back-points, back_low, back-high}
use Rattle.smoothing.proofs.CurveLaws.{smooth_some}

-- what stands in the part of a row's points
abbrev pub part_of : Row → List Float → List Float
part_of p w = take (2 * p.first + 2 * p.points - 2 * p.first) (drop (2 * p.first) w)

module _ (cell : Float) (p : Row) (w : List Float) (h : 2 * end_of p ≤ length w) (m : ℕ) (t : List Float) (r : Begins (smooth_of p.closed cell (points 0 p.points (part_of p w))) p.points (part_of p w) m t) where
  row-smoothed : (u : List Float) → u ≡ put_mid (2 * p.first) (2 * p.first + 2 * p.points - 2 * p.first) w t → SmoothedRow cell p w m u
  unfolding within
  row-smoothed u e =
      let f = p.first in
      let n = p.points in
      let fits = part_fits f n w h in
      let l : length t ≡ 2 * f + 2 * n - 2 * f = r.long ∙ region-long (2 * f) (2 * f + 2 * n) w fits in
      let U : u ≡ put (2 * f) (2 * f + 2 * n) t w = e ∙ put_is (2 * f) (2 * f + 2 * n) w fits t t refl in
      let is : points f m u ≡ smooth_of p.closed cell (points f n w) = ap (points f m) U ∙ back-points f n w h t l m r.few ∙ r.is ∙ ap (smooth_of p.closed cell) (part_points f n w h) in
      record {
        is = is;
        few = r.few;
        some = λ b. subst (λ (k : ℕ). 0 < k) (sym (ap length is) ∙ points-length f m u) (smooth_some cell (points f n w) p.closed (subst (λ (k : ℕ). 0 < k) (sym (points-length f n w)) b));
        low = λ j b. ap (λ (q : List Float). vertex_of q j) U ∙ back_low f n w h t l j b;
        high = λ j b. ap (λ (q : List Float). vertex_of q j) U ∙ back-high f n w h t l j b;
        long = ap length U ∙ put-length (2 * f) (2 * f + 2 * n) w t fits l;
      }

-- the row as it is read
pub read-smoothed : (cell : Float) (p q : Row) (w t : List Float) (m : ℕ) → p ≡ q → 2 * end_of q ≤ length w → Begins (smooth_of p.closed cell (points 0 p.points (part_of p w))) p.points (part_of p w) m t
    → SmoothedRow cell q w m (put_mid (2 * p.first) (2 * p.first + 2 * p.points - 2 * p.first) w t)
read-smoothed cell p q w t m e h r =
    let u = put_mid (2 * p.first) (2 * p.first + 2 * p.points - 2 * p.first) w t in
    subst (λ (z : Row). SmoothedRow cell z w m u) e (row-smoothed cell p w (subst (λ (z : Row). 2 * end_of z ≤ length w) (sym e) h) m t r u refl)
