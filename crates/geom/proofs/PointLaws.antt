-- What is put is read back, and nothing else changes; a point more is the list with it at the end. Assumes nothing.
use mathlib.Core.Path.{◌≡◌, refl, sym, ap, ◌∙◌}
use Prim.Native.Nat.{ℕ, zero, suc, ◌+◌, ◌*◌, ◌≤◌, ◌<◌}
use native.Mathlib.Omega.{arith}
use mathlib.Core.List.{List, [], ◌∷◌, ◌++◌}
use lib.ListN.{length, get_or, set, length-set, length-append, get_or-append}
use lib.Seq.{get_or-set_same, get_or-set_other, get_or-append_seam}
use lib.Ieee.{Float, nan}
use Rattle.geom.specs.Region.{vertex_of}
use Rattle.geom.specs.Points.{put_point, points}
use Rattle.geom.specs.Vec.{v2}
use Rattle.geom.specs.declared.vec2.Vec2.{Vec2}

pub put-length : (k : ℕ) (p : Vec2) (w : List Float) → length (put_point k p w) ≡ length w
unfolding put_point
put-length k p w = length-set (set w (2 * k) p.x) (2 * k + 1) p.y ∙ length-set w (2 * k) p.x

pub put-here : (k : ℕ) (p : Vec2) (w : List Float) → 2 * k + 1 < length w → vertex_of (put_point k p w) k ≡ p
unfolding put_point vertex_of
put-here k p w h =
    let u = set w (2 * k) p.x in
    let x : get_or (set u (2 * k + 1) p.y) (2 * k) nan ≡ p.x =
    get_or-set_other u (2 * k + 1) (2 * k) p.y nan (λ e. omega arith) ∙ get_or-set_same w (2 * k) p.x nan (omega arith) in
    let y : get_or (set u (2 * k + 1) p.y) (2 * k + 1) nan ≡ p.y =
    get_or-set_same u (2 * k + 1) p.y nan (omega (arith, length-set w (2 * k) p.x)) in
    ap (λ (a : Float). v2 a (get_or (set u (2 * k + 1) p.y) (2 * k + 1) nan)) x ∙ ap (λ (b : Float). v2 p.x b) y

-- any other number is as it was
put_other : (k : ℕ) (p : Vec2) (w : List Float) (i : ℕ) → (i ≡ 2 * k → ⊥) → (i ≡ 2 * k + 1 → ⊥) → get_or (put_point k p w) i nan ≡ get_or w i nan
unfolding put_point
put_other k p w i a b = get_or-set_other (set w (2 * k) p.x) (2 * k + 1) i p.y nan b ∙ get_or-set_other w (2 * k) i p.x nan a

pub put_there : (k : ℕ) (p : Vec2) (w : List Float) (j : ℕ) → (j ≡ k → ⊥) → vertex_of (put_point k p w) j ≡ vertex_of w j
unfolding vertex_of
put_there k p w j h =
    ap (λ (a : Float). v2 a (get_or (put_point k p w) (2 * j + 1) nan)) (put_other k p w (2 * j) (λ e. h (omega arith)) (λ e. omega arith))
    ∙ ap (λ (b : Float). v2 (get_or w (2 * j) nan) b) (put_other k p w (2 * j + 1) (λ e. omega arith) (λ e. h (omega arith)))

-- ---- lists of points

pub points-length : (a n : ℕ) (w : List Float) → length (points a n w) ≡ n
unfolding points
points-length a zero w = refl
points-length a (suc n) w = let i = points-length a n w in omega (arith, length-append (points a n w) (vertex_of w (a + n) ∷ []))

-- slices that agree on the points have the same list
pub points-same : (a n : ℕ) (w t : List Float) → ((k : ℕ) → k < n → vertex_of w (a + k) ≡ vertex_of t (a + k)) → points a n w ≡ points a n t
unfolding points
points-same a zero w t h = refl
points-same a (suc n) w t h =
    ap (λ (l : List Vec2). l ++ (vertex_of w (a + n) ∷ [])) (points-same a n w t (λ k b. h k (omega arith)))
    ∙ ap (λ (q : Vec2). points a n t ++ (q ∷ [])) (h n (omega arith))

-- a point that is put outside them changes none
pub points_kept : (a n k : ℕ) (p : Vec2) (w : List Float) → a + n ≤ k → points a n (put_point k p w) ≡ points a n w
points_kept a n k p w h = points-same a n (put_point k p w) w (λ i b. put_there k p w (a + i) (λ e. omega arith))

-- the next point is put
pub points_more : (a n : ℕ) (p : Vec2) (w : List Float) → 2 * (a + n) + 1 < length w → points a (suc n) (put_point (a + n) p w) ≡ points a n w ++ (p ∷ [])
unfolding points
points_more a n p w h =
    ap (λ (l : List Vec2). l ++ (vertex_of (put_point (a + n) p w) (a + n) ∷ [])) (points_kept a n (a + n) p w (omega arith))
    ∙ ap (λ (q : Vec2). points a n w ++ (q ∷ [])) (put-here (a + n) p w h)

pub points_get : (a n k : ℕ) (w : List Float) (d : Vec2) → k < n → get_or (points a n w) k d ≡ vertex_of w (a + k)
unfolding points
points_get a zero k w d h = absurd (let z : ⊥ = omega arith in z)
points_get a (suc n) k w d h = Rattle.loops.proofs.Cases.by_cases (lib.Dec.ltb k n)
    (λ b. let l = borrow.Author.Tests.ltb-true k n b in
    get_or-append (points a n w) (vertex_of w (a + n) ∷ []) d k (omega (arith, points-length a n w)) ∙ points_get a n k w d l)
    (λ b. let l = borrow.Author.Tests.ltb-false k n b in
    let e : k ≡ n = omega arith in
    let i : k ≡ length (points a n w) = omega (arith, points-length a n w) in
    ap (λ (m : ℕ). get_or (points a n w ++ (vertex_of w (a + n) ∷ [])) m d) i
    ∙ get_or-append_seam (points a n w) (vertex_of w (a + n)) [] d
    ∙ ap (λ (m : ℕ). vertex_of w (a + m)) (sym e))
