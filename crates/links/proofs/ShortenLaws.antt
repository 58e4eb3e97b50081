-- The farthest point in view, sought from the end on, and the path shortened in place. Assumes nothing.
use mathlib.Core.Path.{◌≡◌, refl, sym, ap, ◌∙◌, subst}
use mathlib.Core.Bool.{Bool, true, false, cond}
use mathlib.Core.List.{List, [], ◌∷◌, ◌++◌}
use Prim.Native.Nat.{ℕ, zero, suc, ◌+◌, ◌-◌, ◌*◌, ◌≤◌, ◌<◌}
use native.Mathlib.Omega.{arith}
use lib.ListN.{length, take, drop}
use lib.Ieee.{Float}
use borrow.Author.Tests.{lt-ltb, le-ltb}
use borrow.Rule.Slice.PartMut.{put_mid}
use Rattle.loops.specs.Regions.{Fits, within}
use Rattle.loops.proofs.RegionLaws.{region-long}
use Rattle.loops.specs.Frame.{Only}
use Rattle.loops.proofs.FrameLaws.{back_there, back-only, only_same, only_more, only-before, only-after, only_wider}
use Rattle.geom.specs.Region.{vertex_of}
use Rattle.geom.specs.Points.{put_point, points}
use Rattle.geom.specs.declared.vec2.Vec2.{Vec2}
use Rattle.geom.proofs.PointLaws.{put-length, put_there, points-length, points_more, points_get}
use Rattle.setup.specs.Place.{Walls}
use Rattle.setup.specs.Tables.{Tables}
use Rattle.setup.specs.declared.Setup.{Setup}
use Rattle.std.specs.Prelude.{Option, Some, None}
use Rattle.links.specs.Straight.{link_clear}
use Rattle.links.specs.Path.{farthest_of, lost, way, onward, shorten_from, point_in, shorten_of, path_in, clear_in, Fitted, short_in}

-- ---- the farthest in view

module _ (clear : Vec2 → Vec2 → Bool) (pt : ℕ → Vec2) (here : Vec2) (first : ℕ) where
  pub far_none : (k : ℕ) → k ≤ first → None ≡ farthest_of clear pt here first (k - first)
  unfolding farthest_of
  far_none k h = ap (farthest_of clear pt here first) (let z : 0 ≡ k - first = omega arith in z)

  far-step : (n : ℕ) (k : ℕ) → k ≡ first + n → (t : Bool) → t ≡ clear here (pt k) → farthest_of clear pt here first (suc n) ≡ cond t (Some k) (farthest_of clear pt here first n)
  unfolding farthest_of
  far-step n k K t T = rw (T, K)

  module _ (k : ℕ) (h : first < k) (t : Bool) (T : t ≡ clear here (pt (k - 1))) where
    step : farthest_of clear pt here first (k - first) ≡ cond t (Some (k - 1)) (farthest_of clear pt here first (k - 1 - first))
    step = ap (farthest_of clear pt here first) (let z : k - first ≡ suc (k - 1 - first) = omega arith in z) ∙ far-step (k - 1 - first) (k - 1) (omega arith) t T

    pub far-found : t ≡ true → Some (k - 1) ≡ farthest_of clear pt here first (k - first)
    far-found e = sym (step ∙ ap (λ (b : Bool). cond b (Some (k - 1)) (farthest_of clear pt here first (k - 1 - first))) e)

    pub far_more : t ≡ false → farthest_of clear pt here first (k - 1 - first) ≡ farthest_of clear pt here first (k - first)
    far_more e = sym (step ∙ ap (λ (b : Bool). cond b (Some (k - 1)) (farthest_of clear pt here first (k - 1 - first))) e)

-- a point with its number moved on
shifted : ℕ → Option ℕ → Option ℕ
shifted a None = None
shifted a (Some k) = Some (a + k)

far_shift : (clear : Vec2 → Vec2 → Bool) (pt pt' : ℕ → Vec2) (here : Vec2) (a first n : ℕ) → ((k : ℕ) → first ≤ k → k < first + n → pt' (a + k) ≡ pt k)
    → farthest_of clear pt' here (a + first) n ≡ shifted a (farthest_of clear pt here first n)
unfolding farthest_of shifted
far_shift clear pt pt' here a first zero h = refl
far_shift clear pt pt' here a first (suc n) h =
    ap (λ (k : ℕ). cond (clear here (pt' k)) (Some k) (farthest_of clear pt' here (a + first) n)) (let z : a + first + n ≡ a + (first + n) = omega arith in z)
    ∙ ap (λ (q : Vec2). cond (clear here q) (Some (a + (first + n))) (farthest_of clear pt' here (a + first) n)) (h (first + n) (omega arith) (omega arith))
    ∙ ap (cond (clear here (pt (first + n))) (Some (a + (first + n)))) (far_shift clear pt pt' here a first n (λ k b c. h k b (omega arith)))
    ∙ both (clear here (pt (first + n)))
  where
    both : (b : Bool) → cond b (Some (a + (first + n))) (shifted a (farthest_of clear pt here first n)) ≡ shifted a (cond b (Some (first + n)) (farthest_of clear pt here first n))
    both true = refl
    both false = refl

unshift_none : (a : ℕ) (r : Option ℕ) → shifted a r ≡ None → r ≡ None
unfolding shifted
unshift_none a None e = refl
unshift_none a (Some k) e = absurd (subst Empty e tt)
  where
    Empty : Option ℕ → Type 0
    Empty None = ⊥
    Empty (Some k) = Unit {0}

unshift : (a : ℕ) (r : Option ℕ) (k : ℕ) → shifted a r ≡ Some k → r ≡ Some (k - a)
unfolding shifted
unshift a None k e = absurd (subst Empty e tt)
  where
    Empty : Option ℕ → Type 0
    Empty None = Unit {0}
    Empty (Some k) = ⊥
unshift a (Some j) k e = ap (λ (c : ℕ). Some c) (let z : j ≡ k - a = omega (arith, ap number e) in z)
  where
    number : Option ℕ → ℕ
    number None = 0
    number (Some c) = c

-- by a test that answers the same
far-clear : (clear clear' : Vec2 → Vec2 → Bool) → ((a b : Vec2) → clear a b ≡ clear' a b) → (pt : ℕ → Vec2) (here : Vec2) (first n : ℕ) → farthest_of clear pt here first n ≡ farthest_of clear' pt here first n
unfolding farthest_of
far-clear clear clear' h pt here first zero = refl
far-clear clear clear' h pt here first (suc n) =
    ap (λ (b : Bool). cond b (Some (first + n)) (farthest_of clear pt here first n)) (h here (pt (first + n)))
    ∙ ap (cond (clear' here (pt (first + n))) (Some (first + n))) (far-clear clear clear' h pt here first n)

-- one more point at the end
added : (n : ℕ) (p : Vec2) (w : List Float) → 2 * n + 1 < length w → points 0 (suc n) (put_point n p w) ≡ points 0 n w ++ (p ∷ [])
added n p w h =
    ap (λ (k : ℕ). points 0 (suc n) (put_point k p w)) (let z : n ≡ 0 + n = omega arith in z) ∙ points_more 0 n p w (let z : 2 * (0 + n) + 1 < length w = omega arith in z)

-- what a point in view is: one of those looked at, in view
Sees : (Vec2 → Vec2 → Bool) → (ℕ → Vec2) → Vec2 → ℕ → ℕ → Option ℕ → Type 0
Sees clear pt here first n None = Unit {0}
Sees clear pt here first n (Some k) = (first ≤ k) × ((k < first + n) × (clear here (pt k) ≡ true))

far_sees : (clear : Vec2 → Vec2 → Bool) (pt : ℕ → Vec2) (here : Vec2) (first n : ℕ) → Sees clear pt here first n (farthest_of clear pt here first n)
unfolding farthest_of Sees
far_sees clear pt here first zero = tt
far_sees clear pt here first (suc n) =
    Rattle.loops.proofs.Cases.by_test (Sees clear pt here first (suc n)) (clear here (pt (first + n))) (Some (first + n)) (farthest_of clear pt here first n)
    (λ e. (omega arith, (omega arith, e)))
    (λ e. wider (farthest_of clear pt here first n) (far_sees clear pt here first n))
  where
    wider : (r : Option ℕ) → Sees clear pt here first n r → Sees clear pt here first (suc n) r
    wider None s = tt
    wider (Some k) s = (s.0, (omega (arith, s.1.0), s.1.1))

pub far_in : (clear : Vec2 → Vec2 → Bool) (pt : ℕ → Vec2) (here : Vec2) (first n k : ℕ) → farthest_of clear pt here first n ≡ Some k → (first ≤ k) × ((k < first + n) × (clear here (pt k) ≡ true))
unfolding Sees
far_in clear pt here first n k e = subst (Sees clear pt here first n) e (far_sees clear pt here first n)

-- ---- the parts of w

module _ (s : Setup) (vs : List Float) (lens m : List ℕ) (w : List Float) (F : Fitted s vs lens m w) where
  abbrev n : ℕ
  n = s.grid.ny * s.grid.nx

  pub path_part_lem : Fits (20 * n) (23 * n) w
  path_part_lem = record { start = omega arith; end = omega (arith, F.long) }

  pub clear-is : (w' : List Float) → Only (20 * n) (23 * n) w w' → (a b : Vec2) → clear_in s vs lens m w' a b ≡ clear_in s vs lens m w a b
  clear-is w' o a b = ap (λ (q : List Float). link_clear s q vs lens m a b) (only-before (20 * n) (23 * n) w path_part_lem w' o 0 n (omega arith) (omega arith))

  pub fitted_only : (w' : List Float) → Only (20 * n) (23 * n) w w' → Fitted s vs lens m w'
  fitted_only w' o = record {
    walls = subst (λ (q : List Float). Walls s q vs lens) (sym (only-before (20 * n) (23 * n) w path_part_lem w' o 0 n (omega arith) (omega arith))) F.walls;
    over = F.over;
    tables = subst (Tables s) (sym (only-after (20 * n) (23 * n) w path_part_lem w' o (24 * n) (24 * n + (8 * n + 8192)) (omega arith))) F.tables;
    long = omega (arith, F.long, o.long);
  }

-- a part whose ends are known by equations
pub part_at : {A : Type 0} (a e b f : ℕ) (w : List A) → a ≡ b → e ≡ f → take (e - a) (drop a w) ≡ within b f w
unfolding within
part_at a e b f w p q = ap (λ (z : ℕ). take (z - a) (drop a w)) q ∙ ap (λ (z : ℕ). take (f - z) (drop z w)) p

-- the rim's part, as it is lent
pub rim-at : (s : Setup) (w : List Float) (n : ℕ) → n ≡ s.grid.ny * s.grid.nx → (a : ℕ) → a ≡ 24 * n → (e : ℕ) → e ≡ 24 * n + (8 * n + 8192)
    → Tables s (within (24 * (s.grid.ny * s.grid.nx)) (24 * (s.grid.ny * s.grid.nx) + (8 * (s.grid.ny * s.grid.nx) + 8192)) w) → Tables s (take (e - a) (drop a w))
rim-at s w n N a p e q R = subst (Tables s) (sym (part_at a e (24 * (s.grid.ny * s.grid.nx)) (24 * (s.grid.ny * s.grid.nx) + (8 * (s.grid.ny * s.grid.nx) + 8192)) w (omega arith) (omega arith))) R

module _ (s : Setup) (w : List Float) (size : ℕ) (N : size ≡ s.grid.ny * s.grid.nx) (a : ℕ) (P : a ≡ 20 * size) where
  abbrev e : ℕ
  e = a + 3 * size

  -- the path's part, as it is lent
  pub path-at : take (e - a) (drop a w) ≡ path_in s w
  path-at = part_at a e (20 * (s.grid.ny * s.grid.nx)) (23 * (s.grid.ny * s.grid.nx)) w (omega arith) (omega arith)

  -- it comes back as r
  pub keep-is : (k : ℕ) (p : Vec2) → 24 * (s.grid.ny * s.grid.nx) ≤ length w → (r : List Float) → r ≡ put_point k p (take (e - a) (drop a w))
      → (path_in s (put_mid a (e - a) w r) ≡ put_point k p (path_in s w)) × Only (20 * (s.grid.ny * s.grid.nx)) (23 * (s.grid.ny * s.grid.nx)) w (put_mid a (e - a) w r)
  unfolding within
  keep-is k p h r R =
      let n = s.grid.ny * s.grid.nx in
      let f : Fits a e w = record { start = omega arith; end = omega arith } in
      let l = ap length R ∙ put-length k p (take (e - a) (drop a w)) in (
        sym (part_at a e (20 * n) (23 * n) (put_mid a (e - a) w r) (omega arith) (omega arith)) ∙ back_there a e w f r l ∙ R ∙ ap (put_point k p) path-at,
        only_wider a e w _ f (back-only a e w f r l) (20 * n) (23 * n) (omega arith) (omega arith) (omega arith),
      )

pub path-long : (s : Setup) (w : List Float) → 24 * (s.grid.ny * s.grid.nx) ≤ length w → length (path_in s w) ≡ 3 * (s.grid.ny * s.grid.nx)
unfolding within
path-long s w h =
    let n = s.grid.ny * s.grid.nx in
    let z = region-long (20 * n) (23 * n) w (record { start = omega arith; end = omega arith }) in
    omega (arith, z)

-- ---- shortening

-- turned aside where no point is in view
module _ (clear : Vec2 → Vec2 → Bool) (pt : ℕ → Vec2) (end : ℕ) (here : Vec2) (first : ℕ) (path : List Vec2) where
  short-end : (n : ℕ) → 0 < n → end ≤ first → way path ≡ shorten_from clear pt end n here first path
  unfolding shorten_from
  short-end zero h e = absurd (let z : ⊥ = omega arith in z)
  short-end (suc n) h e = rw (le-ltb first end e)

  short-lost : (n : ℕ) → first < end → farthest_of clear pt here first (end - first) ≡ None → lost ≡ shorten_from clear pt end n here first path
  unfolding shorten_from onward
  short-lost zero h e = refl
  short-lost (suc n) h e = rw (lt-ltb first end h, e)

  short_more : (n k : ℕ) → 0 < n → first < end → farthest_of clear pt here first (end - first) ≡ Some k
      → shorten_from clear pt end (n - 1) (pt k) (k + 1) (path ++ (pt k ∷ [])) ≡ shorten_from clear pt end n here first path
  unfolding shorten_from onward
  short_more zero k h f e = absurd (let z : ⊥ = omega arith in z)
  short_more (suc n) k h f e = rw (lt-ltb first end f, e) (ap (λ (c : ℕ). shorten_from clear pt end c (pt k) (k + 1) (path ++ (pt k ∷ []))) (let z : suc n - 1 ≡ n = omega arith in z))

-- kept points lie in the first places, and the points from `first` on are as they were
pub record Shortening (s : Setup) (vs : List Float) (lens m : List ℕ) (w₀ : List Float) (at end : ℕ) (from : Vec2) (w : List Float) (here : Vec2) (first kept : ℕ) : Type 0 where
  pub low : at ≤ first
  pub high : first ≤ end
  pub few : kept + at ≤ first
  pub only : Only (20 * (s.grid.ny * s.grid.nx)) (23 * (s.grid.ny * s.grid.nx)) w₀ w
  pub later : (k : ℕ) → first ≤ k → vertex_of (path_in s w) k ≡ vertex_of (path_in s w₀) k
  pub rest : shorten_from (clear_in s vs lens m w₀) (point_in (points at (end - at) (path_in s w₀)) from) (end - at) (end - at + 1 - kept) here (first - at) (points 0 kept (path_in s w))
      ≡ shorten_of (clear_in s vs lens m w₀) (points at (end - at) (path_in s w₀)) from

module _ (s : Setup) (vs : List Float) (lens m : List ℕ) (w₀ : List Float) (F : Fitted s vs lens m w₀) (at end : ℕ) (A : at ≤ end) (E : 2 * end ≤ 3 * (s.grid.ny * s.grid.nx)) (from : Vec2) where
  ps : List Vec2
  ps = points at (end - at) (path_in s w₀)

  pub shortening_none : Shortening s vs lens m w₀ at end from w₀ from at 0
  unfolding shorten_of points
  shortening_none = record {
    low = omega arith;
    high = A;
    few = omega arith;
    only = only_same (20 * (s.grid.ny * s.grid.nx)) (23 * (s.grid.ny * s.grid.nx)) w₀ (path_part_lem s vs lens m w₀ F);
    later = λ k h. refl;
    rest = ap (λ (c : ℕ). shorten_from (clear_in s vs lens m w₀) (point_in (points at (end - at) (path_in s w₀)) from) (end - at) c from (at - at) []) (let z : end - at + 1 - 0 ≡ end - at + 1 = omega arith in z)
        ∙ ap (λ (z : ℕ). shorten_from (clear_in s vs lens m w₀) (point_in (points at (end - at) (path_in s w₀)) from) (end - at) (end - at + 1) from z []) (let z : at - at ≡ 0 = omega arith in z)
        ∙ ap (λ (c : ℕ). shorten_from (clear_in s vs lens m w₀) (point_in (points at (end - at) (path_in s w₀)) from) c (c + 1) from 0 []) (sym (points-length at (end - at) (path_in s w₀)));
  }

  module _ (w : List Float) (here : Vec2) (first kept : ℕ) (S : Shortening s vs lens m w₀ at end from w here first kept) where
    pub shortening_fitted : Fitted s vs lens m w
    shortening_fitted = fitted_only s vs lens m w₀ F w S.only

    pub shortening_end : end ≤ first → short_in s (Some kept) w ≡ shorten_of (clear_in s vs lens m w₀) (points at (end - at) (path_in s w₀)) from
    shortening_end h =
        short-end (clear_in s vs lens m w₀) (point_in (points at (end - at) (path_in s w₀)) from) (end - at) here (first - at) (points 0 kept (path_in s w)) (end - at + 1 - kept) (omega (arith, S.few, S.high)) (omega arith)
        ∙ S.rest

    -- what `farthest` answers is what the definition does, at numbers less `at`
    module _ (h : first < end) (f : Option ℕ) (G : f ≡ farthest_of (clear_in s vs lens m w) (vertex_of (path_in s w)) here first (end - first)) where
      seen : f ≡ shifted at (farthest_of (clear_in s vs lens m w₀) (point_in (points at (end - at) (path_in s w₀)) from) here (first - at) (end - at - (first - at)))
      seen =
          let low = S.low in
          G ∙ far-clear (clear_in s vs lens m w) (clear_in s vs lens m w₀) (clear-is s vs lens m w₀ F w S.only) (vertex_of (path_in s w)) here first (end - first)
          ∙ ap (λ (c : ℕ). farthest_of (clear_in s vs lens m w₀) (vertex_of (path_in s w)) here c (end - first)) (let z : first ≡ at + (first - at) = omega arith in z)
          ∙ far_shift (clear_in s vs lens m w₀) (point_in (points at (end - at) (path_in s w₀)) from) (vertex_of (path_in s w)) here at (first - at) (end - first)
          (λ k a b. S.later (at + k) (omega arith) ∙ sym (points_get at (end - at) k (path_in s w₀) from (omega arith)))
          ∙ ap (λ (c : ℕ). shifted at (farthest_of (clear_in s vs lens m w₀) (point_in (points at (end - at) (path_in s w₀)) from) here (first - at) c)) (let z : end - first ≡ end - at - (first - at) = omega arith in z)

      pub shortening_lost : f ≡ None → short_in s None w ≡ shorten_of (clear_in s vs lens m w₀) (points at (end - at) (path_in s w₀)) from
      shortening_lost e =
          short-lost (clear_in s vs lens m w₀) (point_in (points at (end - at) (path_in s w₀)) from) (end - at) here (first - at) (points 0 kept (path_in s w)) (end - at + 1 - kept) (omega (arith, S.low))
          (unshift_none at _ (sym seen ∙ e))
          ∙ S.rest

      module _ (k : ℕ) (e : f ≡ Some k) where
        pub shortening_in : (first ≤ k) × (k < end)
        shortening_in = let z = far_in (clear_in s vs lens m w) (vertex_of (path_in s w)) here first (end - first) k (sym G ∙ e) in (z.0, omega (arith, z.1.0))

        pub shortening_more : (p : Vec2) → p ≡ vertex_of (path_in s w) k → (w' : List Float) → path_in s w' ≡ put_point kept p (path_in s w)
            → Only (20 * (s.grid.ny * s.grid.nx)) (23 * (s.grid.ny * s.grid.nx)) w w' → Shortening s vs lens m w₀ at end from w' p (k + 1) (kept + 1)
        shortening_more p P w' W o =
            let i = shortening_in in
            let low = S.low in
            let few = S.few in
            let pt = point_in (points at (end - at) (path_in s w₀)) from in
            let q : p ≡ pt (k - at) =
            P ∙ S.later k i.0 ∙ ap (vertex_of (path_in s w₀)) (let z : k ≡ at + (k - at) = omega (arith, i.0) in z) ∙ sym (points_get at (end - at) (k - at) (path_in s w₀) from (omega (arith, i.0, i.1))) in
            let long = path-long s w (omega (arith, shortening_fitted.long)) in
            let far : farthest_of (clear_in s vs lens m w₀) pt here (first - at) (end - at - (first - at)) ≡ Some (k - at) = unshift at _ k (sym seen ∙ e) in
            record {
              low = omega (arith, i.0);
              high = omega (arith, i.1);
              few = omega (arith, i.0);
              only = only_more (20 * (s.grid.ny * s.grid.nx)) (23 * (s.grid.ny * s.grid.nx)) w₀ (path_part_lem s vs lens m w₀ F) w S.only w' o;
              later = λ j b. ap (λ (l : List Float). vertex_of l j) W ∙ put_there kept p (path_in s w) j (λ d. omega (arith, i.0)) ∙ S.later j (omega (arith, i.0));
              rest = ap (λ (l : List Float). shorten_from (clear_in s vs lens m w₀) pt (end - at) (end - at + 1 - (kept + 1)) p (k + 1 - at) (points 0 (kept + 1) l)) W
                  ∙ ap (λ (l : List Vec2). shorten_from (clear_in s vs lens m w₀) pt (end - at) (end - at + 1 - (kept + 1)) p (k + 1 - at) l)
                  (ap (λ (c : ℕ). points 0 c (put_point kept p (path_in s w))) (let z : kept + 1 ≡ suc kept = omega arith in z) ∙ added kept p (path_in s w) (omega (arith, long, i.0, i.1, E)))
                  ∙ ap (λ (x : Vec2). shorten_from (clear_in s vs lens m w₀) pt (end - at) (end - at + 1 - (kept + 1)) x (k + 1 - at) (points 0 kept (path_in s w) ++ (x ∷ []))) q
                  ∙ ap (λ (c : ℕ). shorten_from (clear_in s vs lens m w₀) pt (end - at) c (pt (k - at)) (k + 1 - at) (points 0 kept (path_in s w) ++ (pt (k - at) ∷ []))) (let z : end - at + 1 - (kept + 1) ≡ end - at + 1 - kept - 1 = omega arith in z)
                  ∙ ap (λ (c : ℕ). shorten_from (clear_in s vs lens m w₀) pt (end - at) (end - at + 1 - kept - 1) (pt (k - at)) c (points 0 kept (path_in s w) ++ (pt (k - at) ∷ []))) (let z : k + 1 - at ≡ k - at + 1 = omega (arith, i.0) in z)
                  ∙ short_more (clear_in s vs lens m w₀) pt (end - at) here (first - at) (points 0 kept (path_in s w)) (end - at + 1 - kept) (k - at) (omega arith) (omega arith) far
                  ∙ S.rest;
            }
