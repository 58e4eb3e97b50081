-- Points laid flat in the workspace, and a piece walked from one of its points on. Assumes nothing.
use mathlib.Core.Path.{◌≡◌, refl, sym, ap, ◌∙◌, subst}
use mathlib.Core.Bool.{Bool, true, false, cond}
use mathlib.Core.List.{List, [], ◌∷◌, ◌++◌, append_assoc}
use mathlib.Core.Option.{Option, none, some}
use Prim.Native.Nat.{ℕ, zero, suc, ◌+◌, ◌-◌, ◌*◌, ◌/◌, ◌%◌, ◌≤◌, ◌<◌}
use native.Mathlib.Omega.{arith}
use lib.ListN.{length, get_or, take, drop, set, length-append, length-drop, take-append-drop, get_or-append}
use lib.Seq.{length-take-le, get_or-take, get_or-drop, get_or-append-add, get_or_at, drop-cons, set_at, ext_get_or}
use lib.Dec.{ltb, eqb}
use lib.Ieee.{Float, nan}
use borrow.Author.Tests.{lt-ltb, le-ltb, ltb-true, ltb-false, eqb-true, eqb-false}
use borrow.Rule.Slice.PartMut.{put_mid}
use Rattle.loops.specs.Regions.{Fits, within, put}
use Rattle.loops.proofs.Cases.{by_cases}
use Rattle.loops.proofs.RegionLaws.{region-long, put_is, put_back, put-before, put-length, put_again}
use Rattle.geom.specs.Vec.{v2}
use Rattle.geom.specs.Region.{vertex_of}
use Rattle.geom.specs.Points.{points}
use Rattle.geom.specs.declared.vec2.Vec2.{Vec2}
use Rattle.geom.proofs.PointLaws.{points-length}
use Rattle.passes.specs.Simulate.{nowhere}
use Rattle.setup.specs.Place.{Walls, allowed_at, free_at}
use Rattle.setup.specs.declared.Setup.{Setup}
use Rattle.passes.specs.declared.guide.Blend.{Blend}
use Rattle.std.specs.Prelude.{Option as RustOption, Some, None}
use Rattle.passes.specs.Guide.{bent_of, choose_of, blended, blend_of, round_to, walk_of, flat, points_in, laid, bent_or, is_some, Ahead}
use Rattle.passes.proofs.SimulateLaws.{point_in_lem}

-- ---- flat

pub flat-length : (l : List Vec2) → length (flat l) ≡ 2 * length l
unfolding flat
flat-length [] = refl
flat-length (p ∷ l) = omega (arith, flat-length l)

flat_append : (l r : List Vec2) → flat (l ++ r) ≡ flat l ++ flat r
unfolding flat
flat_append [] r = refl
flat_append (p ∷ l) r = ap (λ (k : List Float). p.x ∷ p.y ∷ k) (flat_append l r)

skip_two : (a b : Float) (l : List Float) (i k : ℕ) → i ≡ suc (suc k) → get_or (a ∷ b ∷ l) i nan ≡ get_or l k nan
skip_two a b l i k e = ap (λ (q : ℕ). get_or (a ∷ b ∷ l) q nan) e

flat-x : (l : List Vec2) (k : ℕ) → get_or (flat l) (2 * k) nan ≡ (get_or l k nowhere).x
unfolding flat
flat-x [] k = refl
flat-x (p ∷ l) zero = refl
flat-x (p ∷ l) (suc k) = skip_two p.x p.y (flat l) (2 * suc k) (2 * k) (omega arith) ∙ flat-x l k

flat-y : (l : List Vec2) (k : ℕ) → get_or (flat l) (2 * k + 1) nan ≡ (get_or l k nowhere).y
unfolding flat
flat-y [] k = refl
flat-y (p ∷ l) zero = refl
flat-y (p ∷ l) (suc k) = skip_two p.x p.y (flat l) (2 * suc k + 1) (2 * k + 1) (omega arith) ∙ flat-y l k

pub vertex_flat : (l : List Vec2) (k : ℕ) → vertex_of (flat l) k ≡ get_or l k nowhere
unfolding vertex_of
vertex_flat l k = λ i. v2 (flat-x l k i) (flat-y l k i)

-- what is laid is read back
pub points-flat : (l : List Vec2) (n : ℕ) → length l ≡ n → points 0 n (flat l) ≡ l
points-flat l n e =
    ext_get_or nowhere (points 0 n (flat l)) l (points-length 0 n (flat l) ∙ sym e)
    (λ i h. point_in_lem (flat l) n i (omega (arith, points-length 0 n (flat l))) ∙ vertex_flat l i)

-- a slice is its points laid flat
pub flat-points : (r : List Float) (n : ℕ) → length r ≡ 2 * n → flat (points 0 n r) ≡ r
unfolding vertex_of
flat-points r n e =
    ext_get_or nan (flat (points 0 n r)) r same
    (λ i h. let d : i < 2 * n = omega (arith, same) in
    by_cases (eqb (i % 2) 0)
    (λ b. let z = eqb-true (i % 2) 0 b in
    let k : i ≡ 2 * (i / 2) = omega arith in
    ap (λ (q : ℕ). get_or (flat (points 0 n r)) q nan) k ∙ flat-x (points 0 n r) (i / 2) ∙ ap (λ (p : Vec2). p.x) (point_in_lem r n (i / 2) (omega arith)) ∙ ap (λ (q : ℕ). get_or r q nan) (sym k))
    (λ b. let z = eqb-false (i % 2) 0 b in
    let k : i ≡ 2 * (i / 2) + 1 = omega arith in
    ap (λ (q : ℕ). get_or (flat (points 0 n r)) q nan) k ∙ flat-y (points 0 n r) (i / 2) ∙ ap (λ (p : Vec2). p.y) (point_in_lem r n (i / 2) (omega arith)) ∙ ap (λ (q : ℕ). get_or r q nan) (sym k)))
  where
    same : length (flat (points 0 n r)) ≡ length r
    same = let a = points-length 0 n r in let b = flat-length (points 0 n r) in omega arith

-- ---- a walk

pub walk-length : (pts : List Vec2) (s n : ℕ) → length (walk_of pts s n) ≡ n
unfolding walk_of
walk-length pts s zero = refl
walk-length pts s (suc n) = omega (arith, length-append (walk_of pts s n) (get_or pts (round_to (length pts) (s + n)) nowhere ∷ []), walk-length pts s n)

pub walk_get : (pts : List Vec2) (s n k : ℕ) → k < n → get_or (walk_of pts s n) k nowhere ≡ get_or pts (round_to (length pts) (s + k)) nowhere
unfolding walk_of
walk_get pts s zero k h = absurd (let z : ⊥ = omega arith in z)
walk_get pts s (suc n) k h =
    by_cases (ltb k n)
    (λ b. let l = ltb-true k n b in
    get_or-append (walk_of pts s n) (get_or pts (round_to (length pts) (s + n)) nowhere ∷ []) nowhere k (omega (arith, walk-length pts s n)) ∙ walk_get pts s n k l)
    (λ b. let l = ltb-false k n b in
    let e : n ≡ k = omega arith in
    get_or_at (walk_of pts s n) (get_or pts (round_to (length pts) (s + n)) nowhere) [] nowhere k (walk-length pts s n ∙ e)
    ∙ ap (λ (i : ℕ). get_or pts (round_to (length pts) (s + i)) nowhere) e)

-- an open piece from its start on is itself
pub walk_open : (pts : List Vec2) → walk_of pts 0 (length pts) ≡ pts
unfolding round_to
walk_open pts =
    ext_get_or nowhere (walk_of pts 0 (length pts)) pts (walk-length pts 0 (length pts))
    (λ i h. let d : i < length pts = omega (arith, walk-length pts 0 (length pts)) in
    walk_get pts 0 (length pts) i d ∙ ap (λ (b : Bool). get_or pts (cond b (0 + i) (0 + i - length pts)) nowhere) (lt-ltb (0 + i) (length pts) (omega arith)) ∙ ap (λ (k : ℕ). get_or pts k nowhere) (let z : 0 + i ≡ i = omega arith in z))

-- piece.pts[s..], then piece.pts[..=s]
pub walk-closed : (pts : List Vec2) (s : ℕ) → s < length pts → walk_of pts s (length pts + 1) ≡ drop s pts ++ take (s + 1) pts
unfolding round_to
walk-closed pts s h =
    ext_get_or nowhere (walk_of pts s (length pts + 1)) (drop s pts ++ take (s + 1) pts) (walk-length pts s (length pts + 1) ∙ sym long)
    (λ i b. let d : i < length pts + 1 = omega (arith, walk-length pts s (length pts + 1)) in
    walk_get pts s (length pts + 1) i d
    ∙ by_cases (ltb (s + i) (length pts))
    (λ t. let l = ltb-true (s + i) (length pts) t in
    ap (λ (q : Bool). get_or pts (cond q (s + i) (s + i - length pts)) nowhere) t
    ∙ sym (get_or-append (drop s pts) (take (s + 1) pts) nowhere i (omega (arith, length-drop s pts)) ∙ get_or-drop s pts i nowhere))
    (λ t. let l = ltb-false (s + i) (length pts) t in
    let e : i ≡ length (drop s pts) + (s + i - length pts) = omega (arith, length-drop s pts) in
    ap (λ (q : Bool). get_or pts (cond q (s + i) (s + i - length pts)) nowhere) t
    ∙ sym (ap (λ (k : ℕ). get_or (drop s pts ++ take (s + 1) pts) k nowhere) e
    ∙ get_or-append-add (drop s pts) (take (s + 1) pts) (s + i - length pts) nowhere
    ∙ get_or-take (s + 1) pts (s + i - length pts) nowhere (omega arith))))
  where
    long : length (drop s pts ++ take (s + 1) pts) ≡ length pts + 1
    long = omega (arith, length-append (drop s pts) (take (s + 1) pts), length-drop s pts, length-take-le (s + 1) pts (omega arith))

-- ---- the loop of `walk`: the points so far are laid

pub round-low : (m j : ℕ) → j < m → j ≡ round_to m j
unfolding round_to
round-low m j h = rw (lt-ltb j m h)

pub round-high : (m j : ℕ) → m ≤ j → j - m ≡ round_to m j
unfolding round_to
round-high m j h = rw (le-ltb j m h)

round-below : (m j : ℕ) → j < 2 * m → round_to m j < m
unfolding round_to
round-below m j h =
    by_cases (ltb j m)
    (λ b. rw b (ltb-true j m b))
    (λ b. let l = ltb-false j m b in let z : j - m < m = omega arith in rw b z)

abbrev pub Walked : ℕ → ℕ → ℕ → ℕ → List Float → List Float → ℕ → Type 0
Walked from m start to w₀ w i = w ≡ put to (to + 2 * i) (flat (walk_of (points_in from m w₀) start i)) w₀

module _ (from m start n to : ℕ) (w₀ : List Float) (A : Ahead from m start n to (length w₀)) where
  abbrev walked : ℕ → List Vec2
  walked i = walk_of (points_in from m w₀) start i

  abbrev Walking : List Float → ℕ → Type 0
  Walking w i = Walked from m start to w₀ w i

  pub walking_none : Walking w₀ 0
  unfolding put walk_of flat
  walking_none = sym (ap (λ (k : ℕ). take to w₀ ++ drop k w₀) (let z : to + 2 * 0 ≡ to = omega arith in z) ∙ take-append-drop to w₀)

  module _ (w : List Float) (i : ℕ) (I : Walking w i) (h : i ≤ n) where
    laid-long : length (flat (walked i)) ≡ 2 * i
    laid-long = flat-length (walked i) ∙ ap (λ (k : ℕ). 2 * k) (walk-length (points_in from m w₀) start i)

    pub walking_long : length w ≡ length w₀
    walking_long =
        let a = A.within in
        ap length I ∙ put-length to (to + 2 * i) w₀ (flat (walked i)) (record { start = omega arith; end = omega arith }) (omega (arith, laid-long))

    front_long : length (take to w₀) ≡ to
    front_long = let a = A.within in length-take-le to w₀ (omega arith)

    -- what stands before the guide is read as it was
    as_was : (k : ℕ) → k < to → get_or w k nan ≡ get_or w₀ k nan
    unfolding put
    as_was k d = ap (λ (v : List Float). get_or v k nan) I ∙ get_or-append (take to w₀) _ nan k (omega (arith, front_long)) ∙ get_or-take to w₀ k nan d

    module _ (b : i < n) (j : ℕ) (J : j ≡ round_to m (start + i)) where
      pub walking_in : (from + 2 * j + 1 < to) × (to + 2 * i + 1 < length w)
      walking_in =
          let x = A.before in
          let y = A.within in
          let z = A.round in
          let r : j < m = subst (λ (k : ℕ). k < m) (sym J) (round-below m (start + i) (omega arith)) in
          (omega arith, omega (arith, walking_long))

      -- the point that is read
      abbrev point : Vec2
      point = get_or (points_in from m w₀) (round_to (length (points_in from m w₀)) (start + i)) nowhere

      point-is : point ≡ v2 (get_or w (from + 2 * j) nan) (get_or w (from + 2 * j + 1) nan)
      unfolding vertex_of within
      point-is =
          let f = walking_in.0 in
          let z = A.round in
          let r : j < m = subst (λ (k : ℕ). k < m) (sym J) (round-below m (start + i) (omega arith)) in
          ap (λ (k : ℕ). get_or (points_in from m w₀) (round_to k (start + i)) nowhere) (points-length 0 m (within from (from + 2 * m) w₀))
          ∙ ap (λ (k : ℕ). get_or (points_in from m w₀) k nowhere) (sym J)
          ∙ point_in_lem (within from (from + 2 * m) w₀) m j r
          ∙ (λ t. v2 (part (2 * j) (omega arith) (omega arith) t) (part_y t))
        where
          part : (k : ℕ) → k < from + 2 * m - from → from + k < to → get_or (take (from + 2 * m - from) (drop from w₀)) k nan ≡ get_or w (from + k) nan
          part k d e = get_or-take (from + 2 * m - from) (drop from w₀) k nan d ∙ get_or-drop from w₀ k nan ∙ sym (as_was (from + k) e)

          part_y : get_or (take (from + 2 * m - from) (drop from w₀)) (2 * j + 1) nan ≡ get_or w (from + 2 * j + 1) nan
          part_y =
              let f = walking_in.0 in
              let z = A.round in
              let r : j < m = subst (λ (k : ℕ). k < m) (sym J) (round-below m (start + i) (omega arith)) in
              part (2 * j + 1) (omega arith) (omega arith) ∙ ap (λ (k : ℕ). get_or w k nan) (let y : from + (2 * j + 1) ≡ from + 2 * j + 1 = omega arith in y)

      pub walking_more : (w' : List Float) → w' ≡ set (set w (to + 2 * i) (get_or w (from + 2 * j) nan)) (to + 2 * i + 1) (get_or w (from + 2 * j + 1) nan) → Walking w' (i + 1)
      unfolding put walk_of flat
      walking_more w' W =
          let y = A.within in
          let F : List Float = take to w₀ ++ flat (walked i) in
          let R : List Float = drop (suc (suc (to + 2 * i))) w₀ in
          let p : Float = get_or w (from + 2 * j) nan in
          let q : Float = get_or w (from + 2 * j + 1) nan in
          let a : Float = get_or w₀ (to + 2 * i) nan in
          let c : Float = get_or w₀ (suc (to + 2 * i)) nan in
          let f : length F ≡ to + 2 * i = omega (arith, length-append (take to w₀) (flat (walked i)), front_long, laid-long) in
          let fp : length (F ++ (p ∷ [])) ≡ to + 2 * i + 1 = omega (arith, f, length-append F (p ∷ [])) in
          let e : w ≡ F ++ (a ∷ c ∷ R) =
          I ∙ sym (append_assoc (take to w₀) (flat (walked i)) (drop (to + 2 * i) w₀))
          ∙ ap (λ (l : List Float). F ++ l) (drop-cons w₀ (to + 2 * i) nan (omega arith) ∙ ap (λ (l : List Float). a ∷ l) (drop-cons w₀ (suc (to + 2 * i)) nan (omega arith))) in
          let one : set w (to + 2 * i) p ≡ (F ++ (p ∷ [])) ++ (c ∷ R) =
          ap (λ (l : List Float). set l (to + 2 * i) p) e ∙ set_at F a (c ∷ R) p (to + 2 * i) f ∙ sym (append_assoc F (p ∷ []) (c ∷ R)) in
          let two : w' ≡ (F ++ (p ∷ [])) ++ (q ∷ R) =
          W ∙ ap (λ (l : List Float). set l (to + 2 * i + 1) q) one ∙ set_at (F ++ (p ∷ [])) c R q (to + 2 * i + 1) fp in
          let more : flat (walked (i + 1)) ≡ flat (walked i) ++ (p ∷ q ∷ []) =
          ap (λ (k : ℕ). flat (walked k)) (let z : i + 1 ≡ suc i = omega arith in z)
          ∙ flat_append (walked i) (point ∷ [])
          ∙ ap (λ (d : Vec2). flat (walked i) ++ (d.x ∷ d.y ∷ [])) point-is in
          two
          ∙ append_assoc F (p ∷ []) (q ∷ R)
          ∙ append_assoc (take to w₀) (flat (walked i)) (p ∷ q ∷ R)
          ∙ ap (λ (l : List Float). take to w₀ ++ l) (sym (append_assoc (flat (walked i)) (p ∷ q ∷ []) R))
          ∙ ap (λ (l : List Float). take to w₀ ++ (l ++ R)) (sym more)
          ∙ ap (λ (k : ℕ). take to w₀ ++ (flat (walked (i + 1)) ++ drop k w₀)) (let z : suc (suc (to + 2 * i)) ≡ to + 2 * (i + 1) = omega arith in z)

    pub walking_end : n ≤ i → w ≡ put to (to + 2 * n) (flat (walked n)) w₀
    walking_end d = I ∙ ap (λ (k : ℕ). put to (to + 2 * k) (flat (walked k)) w₀) (let z : i ≡ n = omega arith in z)

-- ---- a guide that is laid

-- what is laid at `at` is read back there
pub laid-points : (at m : ℕ) (l : List Vec2) (w : List Float) → at + 2 * m ≤ length w → length l ≡ m → points_in at m (laid at m (some l) w) ≡ l
unfolding laid
laid-points at m l w h e =
    ap (points 0 m) (put_back at (at + 2 * m) w (flat l) (record { start = omega arith; end = h }) (omega (arith, flat-length l, e)))
    ∙ points-flat l m e

module _ (at m : ℕ) (w : List Float) (h : at + 2 * m ≤ length w) where
  abbrev part : List Float
  part = take (at + 2 * m - at) (drop at w)

  part_fits : Fits at (at + 2 * m) w
  part_fits = record { start = omega arith; end = h }

  part_long : length part ≡ 2 * m
  part_long = let l = region-long at (at + 2 * m) w part_fits in omega arith

  pub part_half : length part / 2 ≡ m
  part_half = let l = part_long in omega arith

  pub part_some : 1 ≤ m → 2 ≤ length part
  part_some d = let l = part_long in omega arith

  module _ (s : Setup) (allowed free : Vec2 → Bool) (b : RustOption Blend) (B : b ≡ choose_of s allowed free (points 0 (length part / 2) part)) where
    blend_by : blend_of s allowed free (points_in at m w) ≡ blended (points_in at m w) b
    unfolding blend_of within
    blend_by = ap (blended (points_in at m w)) (sym (B ∙ ap (λ (k : ℕ). choose_of s allowed free (points 0 k part)) part_half))

    pub blend_none : b ≡ None → (false ≡ is_some (blend_of s allowed free (points_in at m w))) × (w ≡ laid at m (blend_of s allowed free (points_in at m w)) w)
    unfolding blended is_some laid
    blend_none e =
        let z : blend_of s allowed free (points_in at m w) ≡ none = blend_by ∙ ap (blended (points_in at m w)) e in
        (ap is_some (sym z), ap (λ (o : Option (List Vec2)). laid at m o w) (sym z))

    pub blend_some : (v : Blend) → b ≡ Some v → (r : List Float) → length r ≡ length part → points 0 (length part / 2) r ≡ bent_of v.len v.far (points 0 (length part / 2) part)
        → (true ≡ is_some (blend_of s allowed free (points_in at m w))) × (put_mid at (at + 2 * m - at) w r ≡ laid at m (blend_of s allowed free (points_in at m w)) w)
    unfolding blended is_some laid within
    blend_some v e r l d =
        let z : blend_of s allowed free (points_in at m w) ≡ some (bent_of v.len v.far (points_in at m w)) = blend_by ∙ ap (blended (points_in at m w)) e in
        let g : points 0 m r ≡ bent_of v.len v.far (points_in at m w) =
        ap (λ (k : ℕ). points 0 k r) (sym part_half) ∙ d ∙ ap (λ (k : ℕ). bent_of v.len v.far (points 0 k part)) part_half in
        (ap is_some (sym z), put_is at (at + 2 * m) w part_fits r (flat (bent_of v.len v.far (points_in at m w))) (sym (flat-points r m (l ∙ part_long)) ∙ ap flat g) ∙ ap (λ (o : Option (List Vec2)). laid at m o w) (sym z))

-- ---- walked, then bent

module _ (cells from m start n at : ℕ) (w : List Float) (A : Ahead from m start n at (length w)) (C : cells ≤ at)
    (w₁ : List Float) (W : w₁ ≡ put at (at + 2 * n) (flat (walk_of (points_in from m w) start n)) w) where
  abbrev trod : List Vec2
  trod = walk_of (points_in from m w) start n

  trod_fits : Fits at (at + 2 * n) w
  trod_fits = let a = A.within in record { start = omega arith; end = a }

  trod_long : length (flat trod) ≡ at + 2 * n - at
  trod_long = let a = flat-length trod in let b = walk-length (points_in from m w) start n in omega arith

  lay_long : length w₁ ≡ length w
  lay_long = ap length W ∙ put-length at (at + 2 * n) w (flat trod) trod_fits trod_long

  pub lay_low : cells ≤ length w₁
  lay_low = let a = A.within in omega (arith, lay_long)

  pub lay_high : at + 2 * n ≤ length w₁
  lay_high = let a = A.within in omega (arith, lay_long)

  -- the wall distances are as they were
  lay_wall : within 0 cells w₁ ≡ within 0 cells w
  lay_wall = ap (within 0 cells) W ∙ put-before at (at + 2 * n) w (flat trod) trod_fits trod_long 0 cells (omega arith) C

  lay_points : points_in at n w₁ ≡ trod
  lay_points = ap (points_in at n) W ∙ ap (points 0 n) (put_back at (at + 2 * n) w (flat trod) trod_fits trod_long) ∙ points-flat trod n (walk-length (points_in from m w) start n)

  lay_put : (b : Option (List Vec2)) → laid at n b w₁ ≡ put at (at + 2 * n) (flat (bent_or trod b)) w
  unfolding laid bent_or
  lay_put none = W
  lay_put (some l) = ap (put at (at + 2 * n) (flat l)) W ∙ put_again at (at + 2 * n) w (flat l) (flat trod) trod_fits trod_long

  pub lay_walls : (s : Setup) (vs : List Float) (lens : List ℕ) → Walls s (within 0 cells w) vs lens → Walls s (within 0 cells w₁) vs lens
  lay_walls s vs lens h = subst (λ (v : List Float). Walls s v vs lens) (sym lay_wall) h

  module _ (s : Setup) (vs : List Float) (lens mp : List ℕ) where
    abbrev blend : Option (List Vec2)
    blend = blend_of s (allowed_at s (within 0 cells w) vs lens) (free_at s mp) trod

    lay_blend : blend_of s (allowed_at s (within 0 cells w₁) vs lens) (free_at s mp) (points_in at n w₁) ≡ blend
    lay_blend = ap (λ (v : List Float). blend_of s (allowed_at s v vs lens) (free_at s mp) (points_in at n w₁)) lay_wall ∙ ap (blend_of s (allowed_at s (within 0 cells w) vs lens) (free_at s mp)) lay_points

    pub lay_is : (r : Bool) (w₂ : List Float) → r ≡ is_some (blend_of s (allowed_at s (within 0 cells w₁) vs lens) (free_at s mp) (points_in at n w₁))
        → w₂ ≡ laid at n (blend_of s (allowed_at s (within 0 cells w₁) vs lens) (free_at s mp) (points_in at n w₁)) w₁ → (r ≡ is_some blend) × (w₂ ≡ put at (at + 2 * n) (flat (bent_or trod blend)) w)
    lay_is r w₂ a b = (a ∙ ap is_some lay_blend, b ∙ ap (λ (o : Option (List Vec2)). laid at n o w₁) lay_blend ∙ lay_put blend)
