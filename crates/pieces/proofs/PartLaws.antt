-- The points of a part of a slice that is lent, and of the slice when the part is back. Assumes nothing.
use mathlib.Core.Path.{◌≡◌, refl, sym, ap, ◌∙◌, subst}
use mathlib.Core.List.{List, [], ◌∷◌, ◌++◌}
use Prim.Native.Nat.{ℕ, zero, suc, ◌+◌, ◌-◌, ◌*◌, ◌≤◌, ◌<◌}
use native.Mathlib.Omega.{arith}
use lib.ListN.{length, get_or, drop}
use lib.Seq.{get_or-take, get_or-drop, ext_get_or}
use lib.Ieee.{Float, nan}
use Rattle.loops.specs.Regions.{Fits, within, put}
use Rattle.loops.proofs.RegionLaws.{region-long, put_back, put-before, put-after}
use Rattle.geom.specs.Vec.{v2}
use Rattle.geom.specs.Region.{vertex_of}
use Rattle.geom.specs.Points.{points}
use Rattle.geom.specs.declared.vec2.Vec2.{Vec2}

-- ---- the elements of a region

module _ {A : Type 0} (d : A) where
  pub within_get : (a e : ℕ) (w : List A) (i : ℕ) → i < e - a → get_or (within a e w) i d ≡ get_or w (a + i) d
  unfolding within
  within_get a e w i h = get_or-take (e - a) (drop a w) i d h ∙ get_or-drop a w i d

  one_get : (i : ℕ) (w : List A) → get_or (within i (i + 1) w) 0 d ≡ get_or w i d
  one_get i w = within_get i (i + 1) w 0 (omega arith) ∙ ap (λ (k : ℕ). get_or w k d) (let z : i + 0 ≡ i = omega arith in z)

  module _ (a e : ℕ) (w r : List A) (h : Fits a e w) (l : length r ≡ e - a) where
    pub put_in : (i : ℕ) → i < e - a → get_or (put a e r w) (a + i) d ≡ get_or r i d
    put_in i b = sym (within_get a e (put a e r w) i b) ∙ ap (λ (q : List A). get_or q i d) (put_back a e w r h l)

    pub put_low : (i : ℕ) → i < a → get_or (put a e r w) i d ≡ get_or w i d
    put_low i b = sym (one_get i (put a e r w)) ∙ ap (λ (q : List A). get_or q 0 d) (put-before a e w r h l i (i + 1) (omega arith) (omega arith)) ∙ one_get i w

    pub put-high : (i : ℕ) → e ≤ i → get_or (put a e r w) i d ≡ get_or w i d
    put-high i b = sym (one_get i (put a e r w)) ∙ ap (λ (q : List A). get_or q 0 d) (put-after a e w r h l i (i + 1) b) ∙ one_get i w

  -- a part of a part is a part
  pub inner_part : (a e b f : ℕ) (w : List A) → Fits a e w → b ≤ f → a + f ≤ e → within b f (within a e w) ≡ within (a + b) (a + f) w
  unfolding within
  inner_part a e b f w h l k =
      let v = within a e w in
      let o = h.end in
      let long : length v ≡ e - a = region-long a e w h in
      let inner : length (within b f v) ≡ f - b = region-long b f v (record { start = l; end = omega (arith, h.start) }) in
      let outer : length (within (a + b) (a + f) w) ≡ a + f - (a + b) = region-long (a + b) (a + f) w (record { start = omega arith; end = omega (arith, h.start) }) in
      ext_get_or d (within b f v) (within (a + b) (a + f) w) (omega (arith, inner, outer))
      (λ i c. let s : i < f - b = subst (λ (m : ℕ). i < m) inner c in
      within_get b f v i s ∙ within_get a e w (b + i) (omega (arith, s)) ∙ ap (λ (m : ℕ). get_or w m d) (let z : a + (b + i) ≡ a + b + i = omega arith in z) ∙ sym (within_get (a + b) (a + f) w i (omega (arith, s))))

-- ---- points

vertex_is : (v w : List Float) (j k : ℕ) → get_or v (2 * j) nan ≡ get_or w (2 * k) nan → get_or v (2 * j + 1) nan ≡ get_or w (2 * k + 1) nan → vertex_of v j ≡ vertex_of w k
unfolding vertex_of
vertex_is v w j k x y = ap (λ (z : Float). v2 z (get_or v (2 * j + 1) nan)) x ∙ ap (v2 (get_or w (2 * k) nan)) y

-- points that agree one by one are the same list
pub points-moved : (a b n : ℕ) (u w : List Float) → ((k : ℕ) → k < n → vertex_of u (a + k) ≡ vertex_of w (b + k)) → points a n u ≡ points b n w
unfolding points
points-moved a b zero u w h = refl
points-moved a b (suc n) u w h =
    ap (λ (l : List Vec2). l ++ (vertex_of u (a + n) ∷ [])) (points-moved a b n u w (λ k c. h k (omega arith))) ∙ ap (λ (q : Vec2). points b n w ++ (q ∷ [])) (h n (omega arith))

-- the part of the n points from point f on
module _ (f n : ℕ) (w : List Float) (h : 2 * (f + n) ≤ length w) where
  pub part_fits : Fits (2 * f) (2 * f + 2 * n) w
  part_fits = record { start = omega arith; end = omega arith }

  part_vertex : (k : ℕ) → k < n → vertex_of (within (2 * f) (2 * f + 2 * n) w) (0 + k) ≡ vertex_of w (f + k)
  part_vertex k b =
      let at : (i j : ℕ) → i < 2 * n → j ≡ 2 * f + i → get_or (within (2 * f) (2 * f + 2 * n) w) i nan ≡ get_or w j nan =
      λ i j c e. within_get nan (2 * f) (2 * f + 2 * n) w i (omega arith) ∙ ap (λ (m : ℕ). get_or w m nan) (sym e) in
      vertex_is (within (2 * f) (2 * f + 2 * n) w) w (0 + k) (f + k) (at (2 * (0 + k)) (2 * (f + k)) (omega arith) (omega arith)) (at (2 * (0 + k) + 1) (2 * (f + k) + 1) (omega arith) (omega arith))

  pub part_points : points 0 n (within (2 * f) (2 * f + 2 * n) w) ≡ points f n w
  part_points = points-moved 0 f n (within (2 * f) (2 * f + 2 * n) w) w part_vertex

  module _ (t : List Float) (l : length t ≡ 2 * f + 2 * n - 2 * f) where
    back_vertex : (k : ℕ) → k < n → vertex_of (put (2 * f) (2 * f + 2 * n) t w) (f + k) ≡ vertex_of t (0 + k)
    back_vertex k b =
        let u = put (2 * f) (2 * f + 2 * n) t w in
        let at : (i j : ℕ) → i < 2 * n → j ≡ 2 * f + i → get_or u j nan ≡ get_or t i nan =
        λ i j c e. ap (λ (m : ℕ). get_or u m nan) e ∙ put_in nan (2 * f) (2 * f + 2 * n) w t part_fits l i (omega arith) in
        vertex_is u t (f + k) (0 + k) (at (2 * (0 + k)) (2 * (f + k)) (omega arith) (omega arith)) (at (2 * (0 + k) + 1) (2 * (f + k) + 1) (omega arith) (omega arith))

    pub back-points : (m : ℕ) → m ≤ n → points f m (put (2 * f) (2 * f + 2 * n) t w) ≡ points 0 m t
    back-points m b = points-moved f 0 m (put (2 * f) (2 * f + 2 * n) t w) t (λ k c. back_vertex k (omega arith))

    pub back_low : (j : ℕ) → j < f → vertex_of (put (2 * f) (2 * f + 2 * n) t w) j ≡ vertex_of w j
    back_low j b =
        let low = put_low nan (2 * f) (2 * f + 2 * n) w t part_fits l in
        vertex_is (put (2 * f) (2 * f + 2 * n) t w) w j j (low (2 * j) (omega arith)) (low (2 * j + 1) (omega arith))

    pub back-high : (j : ℕ) → f + n ≤ j → vertex_of (put (2 * f) (2 * f + 2 * n) t w) j ≡ vertex_of w j
    back-high j b =
        let high = put-high nan (2 * f) (2 * f + 2 * n) w t part_fits l in
        vertex_is (put (2 * f) (2 * f + 2 * n) t w) w j j (high (2 * j) (omega arith)) (high (2 * j + 1) (omega arith))

-- a part of a part: n points from point f on of what stands from a to e
pub inner-points : (a e f n : ℕ) (w : List Float) → a + (2 * f + 2 * n) ≤ e → points 0 n (within (a + 2 * f) (a + 2 * f + 2 * n) w) ≡ points f n (within a e w)
inner-points a e f n w h =
    let u = within (a + 2 * f) (a + 2 * f + 2 * n) w in
    let v = within a e w in
    points-moved 0 f n u v (λ k b.
    let at : (i j : ℕ) → i < 2 * n → j ≡ 2 * f + i → get_or u i nan ≡ get_or v j nan =
    λ i j c d. within_get nan (a + 2 * f) (a + 2 * f + 2 * n) w i (omega arith) ∙ ap (λ (m : ℕ). get_or w m nan) (let z : a + 2 * f + i ≡ a + j = omega (arith, d) in z) ∙ sym (within_get nan a e w j (omega (arith, d))) in
    vertex_is u v (0 + k) (f + k) (at (2 * (0 + k)) (2 * (f + k)) (omega arith) (omega arith)) (at (2 * (0 + k) + 1) (2 * (f + k) + 1) (omega arith) (omega arith)))
