-- A point that is put as an element of the list of points. Assumes nothing.
use mathlib.Core.Path.{◌≡◌, sym, ap, ◌∙◌, subst}
use Prim.Native.Nat.{ℕ, suc, ◌+◌, ◌-◌, ◌*◌, ◌≤◌, ◌<◌}
use native.Mathlib.Omega.{arith}
use mathlib.Core.List.{List, [], ◌∷◌, ◌++◌}
use lib.ListN.{length, get_or, set, length-set, length-append}
use lib.Seq.{get_or-set_same, get_or-set_other, ext_get_or, get_or-append_seam}
use lib.Dec.{eqb}
use lib.Ieee.{Float, nan}
use borrow.Author.Tests.{eqb-true, eqb-false}
use Rattle.loops.proofs.Cases.{by_cases}
use Rattle.geom.specs.Vec.{v2}
use Rattle.geom.specs.Region.{vertex_of}
use Rattle.geom.specs.Points.{put_point, points}
use Rattle.geom.specs.declared.vec2.Vec2.{Vec2}
use Rattle.geom.proofs.PointLaws.{put-here, put_there, points-length, points_get, points_more}
use Rattle.smoothing.specs.Smooth.{nth, last_point}

-- ---- the points of a slice, from its start

pub points-at : (n k : ℕ) (w : List Float) → k < n → nth (points 0 n w) k ≡ vertex_of w k
points-at n k w h = points_get 0 n k w (v2 nan nan) h ∙ ap (vertex_of w) (let z : 0 + k ≡ k = omega arith in z)

pub points-last : (n : ℕ) (w : List Float) → 0 < n → last_point (points 0 n w) ≡ vertex_of w (n - 1)
points-last n w h = ap (λ (m : ℕ). nth (points 0 n w) (m - 1)) (points-length 0 n w) ∙ points-at n (n - 1) w (omega arith)

-- the next point is put
pub points-push : (n : ℕ) (p : Vec2) (w : List Float) → 2 * n + 1 < length w → points 0 (n + 1) (put_point n p w) ≡ points 0 n w ++ (p ∷ [])
points-push n p w h =
    ap (λ (m : ℕ). points 0 m (put_point n p w)) (let z : n + 1 ≡ suc n = omega arith in z)
    ∙ ap (λ (m : ℕ). points 0 (suc n) (put_point m p w)) (let z : n ≡ 0 + n = omega arith in z)
    ∙ points_more 0 n p w (omega arith)

-- a point of the list is put
pub points_set : (n k : ℕ) (p : Vec2) (w : List Float) → k < n → 2 * n ≤ length w → points 0 n (put_point k p w) ≡ set (points 0 n w) k p
points_set n k p w h l =
    let d = v2 nan nan in
    let t = put_point k p w in
    let q = points 0 n w in
    ext_get_or d (points 0 n t) (set q k p) (points-length 0 n t ∙ sym (length-set q k p ∙ points-length 0 n w))
    (λ i b.
    let m : i < n = subst (λ (z : ℕ). i < z) (points-length 0 n t) b in
    points-at n i t m
    ∙ by_cases (eqb i k)
    (λ e. let z = eqb-true i k e in
    ap (vertex_of t) z ∙ put-here k p w (omega arith) ∙ sym (ap (λ (j : ℕ). get_or (set q k p) j d) z ∙ get_or-set_same q k p d (omega (arith, points-length 0 n w))))
    (λ e. let z = eqb-false i k e in
    put_there k p w i z ∙ sym (get_or-set_other q k i p d z ∙ points-at n i w m)))

-- ---- the end of a list

pub last-push : (l : List Vec2) (p : Vec2) → last_point (l ++ (p ∷ [])) ≡ p
last-push l p =
    ap (λ (m : ℕ). nth (l ++ (p ∷ [])) m) (let z : length (l ++ (p ∷ [])) - 1 ≡ length l = omega (arith, length-append l (p ∷ [])) in z)
    ∙ get_or-append_seam l p [] (v2 nan nan)

pub length_push : (l : List Vec2) (p : Vec2) → length (l ++ (p ∷ [])) ≡ length l + 1
length_push l p = length-append l (p ∷ [])
