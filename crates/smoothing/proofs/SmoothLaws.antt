-- Smoothing in a lent slice leaves the points that the definition has. Assumes nothing.
use mathlib.Core.Path.{◌≡◌, refl, sym, ap, ◌∙◌, subst}
use mathlib.Core.Bool.{Bool, true, false, cond}
use mathlib.Core.List.{List, [], ◌∷◌, ◌++◌}
use Prim.Native.Nat.{ℕ, ◌+◌, ◌-◌, ◌*◌, ◌≤◌, ◌<◌}
use native.Mathlib.Omega.{arith}
use lib.ListN.{length, set}
use lib.Dec.{eqb, ltb}
use lib.Ieee.{Float, binary64, sub, le, is_nan, inf, fin, nan}
use borrow.Author.Tests.{eqb-false, ltb-true, ltb-false, ne_eqb, lt-ltb, le-ltb}
use Rattle.loops.proofs.LoopLaws.{loop_both}
use Rattle.loops.specs.Loop.{loop}
use Rattle.loops.proofs.Cases.{by_cases, never}
use Rattle.floats.proofs.OrderLaws.{le_numbers}
use Rattle.geom.specs.Vec.{square_of, distance_of}
use Rattle.geom.specs.Region.{vertex_of, before, after}
use Rattle.geom.specs.Points.{put_point, points}
use Rattle.geom.specs.declared.vec2.Vec2.{Vec2}
use Rattle.geom.proofs.PointLaws.{put-length, put_there, points-length}
use Rattle.smoothing.specs.Smooth.{nth, last_point, mean_of, held_at, average_at, averaged, keep_at, spaced, same_point, ended_at, resampled, smooth_of, Averaging, avg, next_of, average_put, Keeping, kpt, keep_put, Begins}
use Rattle.numbers.specs.Root.{root_of}
use Rattle.floats.proofs.NanLaws.{add_numbers, sub_numbers, square-number, eq_self}
use Rattle.smoothing.proofs.StepLaws.{points-at, points-last, points-push, points_set, last-push, length_push}

-- a root that is a number is of one
root-number : (x : Float) → is_nan (root_of x) ≡ false → is_nan x ≡ false
unfolding root_of is_nan
root-number nan e = e
root-number (inf s) e = refl
root-number (fin s m b) e = refl

-- ---- averaging

module _ (closed : Bool) (n k : ℕ) (first prev : Vec2) (w : List Float) (p : Vec2) (b : Bool) (P : p ≡ vertex_of w k) (B : b ≡ held_at closed n k) where
  pub average_held : b ≡ true → avg w p ≡ average_put closed n first k (avg w prev)
  unfolding average_put
  average_held e = rw (← B, e, P)

  pub average_moved : b ≡ false → (q m : Vec2) (t : List Float) → q ≡ next_of n k first w → m ≡ mean_of p prev q → t ≡ put_point k m w → avg t p ≡ average_put closed n first k (avg w prev)
  unfolding average_put
  average_moved e q m t Q M T = rw (← B, e, ← P, ← Q, ← M, ← T)

-- the slice and the list before turn k: points from k on are as they were
pub record AverageStep (n : ℕ) (W : List Float) (k : ℕ) (s : Averaging) (ps : List Vec2) : Type 0 where
  pub list : points 0 n s.slice ≡ ps
  pub prev : s.prev ≡ vertex_of W (before n k)
  pub rest : (j : ℕ) → k ≤ j → vertex_of s.slice j ≡ vertex_of W j
  pub long : length s.slice ≡ length W

before-next : (n k : ℕ) → before n (k + 1) ≡ k
before-next n k = rw (ne_eqb (k + 1) 0 (λ e. omega arith)) (omega arith)

module _ (n : ℕ) (W : List Float) (l : 2 * n ≤ length W) (k : ℕ) (h : k < n) (s : Averaging) (ps : List Vec2) (r : AverageStep n W k s ps) where
  average_one : (held : Bool) (m : Vec2) → AverageStep n W (k + 1) (avg (cond held s.slice (put_point k m s.slice)) (vertex_of s.slice k)) (cond held ps (set ps k m))
  average_one true m = record {
    list = r.list;
    prev = r.rest k (omega arith) ∙ sym (ap (vertex_of W) (before-next n k));
    rest = λ j b. r.rest j (omega arith);
    long = r.long;
  }
  average_one false m = record {
    list = points_set n k m s.slice h (omega (arith, r.long)) ∙ ap (λ (q : List Vec2). set q k m) r.list;
    prev = r.rest k (omega arith) ∙ sym (ap (vertex_of W) (before-next n k));
    rest = λ j b. put_there k m s.slice j (λ e. omega arith) ∙ r.rest j (omega arith);
    long = put-length k m s.slice ∙ r.long;
  }

  next-is : (first : Vec2) → first ≡ vertex_of W 0 → (b : Bool) → eqb (k + 1) n ≡ b → cond b first (vertex_of s.slice (k + 1)) ≡ nth (points 0 n W) (cond b 0 (k + 1))
  next-is first f true e = f ∙ sym (points-at n 0 W (omega arith))
  next-is first f false e =
      let z = eqb-false (k + 1) n e in
      let u : k + 1 < n = by_cases (ltb (k + 1) n) (λ t. ltb-true (k + 1) n t) (λ t. absurd (z (let q : k + 1 ≡ n = omega (arith, ltb-false (k + 1) n t) in q))) in
      r.rest (k + 1) (omega arith) ∙ sym (points-at n (k + 1) W u)

  before-below : before n k < n
  before-below = by_cases (eqb k 0) (λ e. rw e (omega arith)) (λ e. rw e (omega arith))

  average_more : (closed : Bool) (first : Vec2) → first ≡ vertex_of W 0 → AverageStep n W (k + 1) (average_put closed n first k s) (average_at closed n (points 0 n W) k ps)
  unfolding average_put average_at next_of
  average_more closed first f =
      let old = points 0 n W in
      let w = s.slice in
      let here : vertex_of w k ≡ nth old k = r.rest k (omega arith) ∙ sym (points-at n k W h) in
      let prev : s.prev ≡ nth old (before n k) = r.prev ∙ sym (points-at n (before n k) W before-below) in
      let m = mean_of (vertex_of w k) s.prev (cond (eqb (k + 1) n) first (vertex_of w (k + 1))) in
      let M : m ≡ mean_of (nth old k) (nth old (before n k)) (nth old (after n k)) =
      ap (λ (p : Vec2). mean_of p s.prev (cond (eqb (k + 1) n) first (vertex_of w (k + 1)))) here
      ∙ ap (λ (p : Vec2). mean_of (nth old k) p (cond (eqb (k + 1) n) first (vertex_of w (k + 1)))) prev
      ∙ ap (mean_of (nth old k) (nth old (before n k))) (next-is first f (eqb (k + 1) n) refl) in
      subst (λ (p : Vec2). AverageStep n W (k + 1) (average_put closed n first k s) (cond (held_at closed n k) ps (set ps k p))) M
      (average_one (held_at closed n k) m)

module _ (closed : Bool) (n : ℕ) (W : List Float) (l : 2 * n ≤ length W) (first prev : Vec2) (f : first ≡ vertex_of W 0) (p : prev ≡ vertex_of W (n - 1)) where
  -- k turns in the slice are k turns on the list
  pub average_run : (k : ℕ) → k ≤ n → AverageStep n W k (loop (average_put closed n first) 0 k (avg W prev)) (loop (average_at closed n (points 0 n W)) 0 k (points 0 n W))
  average_run k h =
      loop_both (average_put closed n first) (average_at closed n (points 0 n W)) (AverageStep n W) 0 k (omega arith)
      (λ i s ps a b r. average_more n W l i (omega arith) s ps r closed first f)
      (avg W prev) (points 0 n W)
      (record { list = refl; prev = p; rest = λ j b. refl; long = refl })

  pub average_is : (s : Averaging) → s ≡ loop (average_put closed n first) 0 n (avg W prev) → Begins (averaged closed (points 0 n W)) n W n s.slice
  unfolding averaged
  average_is s e =
      let r = average_run n (omega arith) in
      record {
        is = ap (λ (q : Averaging). points 0 n q.slice) e ∙ r.list ∙ ap (λ (m : ℕ). loop (average_at closed m (points 0 n W)) 0 m (points 0 n W)) (sym (points-length 0 n W));
        few = omega arith;
        long = ap (λ (q : Averaging). length q.slice) e ∙ r.long;
      }

-- ---- resampling

module _ (cell : Float) (k n : ℕ) (w : List Float) (p q : Vec2) (x : Float) (r : Bool) (P : p ≡ vertex_of w k) (Q : q ≡ vertex_of w (n - 1)) (X : x ≡ square_of q p)
    (R : r ≡ le cell (root_of x)) where
  pub keep-far : r ≡ true → (t : List Float) → t ≡ put_point n p w → kpt t (n + 1) ≡ keep_put cell k (kpt w n)
  unfolding keep_put distance_of
  keep-far e t T = rw (← P, ← Q, ← X, ← R, e, ← T)

  pub keep-near : r ≡ false → kpt w n ≡ keep_put cell k (kpt w n)
  unfolding keep_put distance_of
  keep-near e = rw (← P, ← Q, ← X, ← R, e)

pub record KeepStep (W : List Float) (k : ℕ) (s : Keeping) (out : List Vec2) : Type 0 where
  pub list : points 0 s.kept s.slice ≡ out
  pub some : 0 < s.kept
  pub most : s.kept ≤ k
  pub rest : (j : ℕ) → k ≤ j → vertex_of s.slice j ≡ vertex_of W j
  pub long : length s.slice ≡ length W

module _ (n : ℕ) (W : List Float) (l : 2 * n ≤ length W) (k : ℕ) (h : k < n) (s : Keeping) (out : List Vec2) (r : KeepStep W k s out) where
  keep_one : (b : Bool) (p : Vec2) → KeepStep W (k + 1) (cond b (kpt (put_point s.kept p s.slice) (s.kept + 1)) s) (cond b (out ++ (p ∷ [])) out)
  keep_one true p = record {
    list = points-push s.kept p s.slice (omega (arith, r.long, r.most)) ∙ ap (λ (q : List Vec2). q ++ (p ∷ [])) r.list;
    some = omega arith;
    most = omega (arith, r.most);
    rest = λ j b. put_there s.kept p s.slice j (λ e. omega (arith, r.most)) ∙ r.rest j (omega arith);
    long = put-length s.kept p s.slice ∙ r.long;
  }
  keep_one false p = record { list = r.list; some = r.some; most = omega (arith, r.most); rest = λ j b. r.rest j (omega arith); long = r.long }

  keep_more : (cell : Float) → KeepStep W (k + 1) (keep_put cell k s) (keep_at cell (points 0 n W) k out)
  unfolding keep_put keep_at
  keep_more cell =
      let w = s.slice in
      let p = vertex_of w k in
      let here : p ≡ nth (points 0 n W) k = r.rest k (omega arith) ∙ sym (points-at n k W h) in
      let last : vertex_of w (s.kept - 1) ≡ last_point out = sym (points-last s.kept w r.some) ∙ ap last_point r.list in
      subst (KeepStep W (k + 1) (keep_put cell k s))
      (ap (λ (q : Vec2). cond (le cell (distance_of q p)) (out ++ (p ∷ [])) out) last
      ∙ ap (λ (q : Vec2). cond (le cell (distance_of (last_point out) q)) (out ++ (q ∷ [])) out) here)
      (keep_one (le cell (distance_of (vertex_of w (s.kept - 1)) p)) p)

module _ (cell : Float) (n : ℕ) (W : List Float) (l : 2 * n ≤ length W) where
  pub keep_run : (k : ℕ) → 1 ≤ k → k ≤ n → KeepStep W k (loop (keep_put cell) 1 k (kpt W 1)) (loop (keep_at cell (points 0 n W)) 1 k (nth (points 0 n W) 0 ∷ []))
  unfolding points
  keep_run k a h =
      loop_both (keep_put cell) (keep_at cell (points 0 n W)) (KeepStep W) 1 k a
      (λ i s out b c r. keep_more n W l i (omega arith) s out r cell)
      (kpt W 1) (nth (points 0 n W) 0 ∷ [])
      (record { list = ap (λ (p : Vec2). p ∷ []) (sym (points-at n 0 W (omega arith))); some = omega arith; most = omega arith; rest = λ j b. refl; long = refl })

  pub keep-is : (s : Keeping) → 0 < n → s ≡ loop (keep_put cell) 1 n (kpt W 1) → Begins (spaced cell (points 0 n W)) n W s.kept s.slice
  unfolding spaced
  keep-is s h e =
      let r = keep_run n h (omega arith) in
      record {
        is = ap (λ (q : Keeping). points 0 q.kept q.slice) e ∙ r.list ∙ ap (λ (m : ℕ). loop (keep_at cell (points 0 n W)) 1 m (nth (points 0 n W) 0 ∷ [])) (sym (points-length 0 n W));
        few = subst (λ (q : Keeping). q.kept ≤ n) (sym e) r.most;
        long = ap (λ (q : Keeping). length q.slice) e ∙ r.long;
      }

-- ---- what is kept is no more than there was; and where all is kept, the last kept is the last point, as floats compare

-- a point that is some distance from another has no NaN
apart-same : (cell : Float) (q p : Vec2) → le cell (distance_of q p) ≡ true → same_point p p ≡ true
unfolding distance_of square_of same_point
apart-same cell q p e =
    let s = add_numbers binary64 _ _ (root-number _ (le_numbers cell (distance_of q p) e).1) in
    let x = (sub_numbers binary64 q.x p.x (square-number binary64 (sub binary64 q.x p.x) s.0)).1 in
    let y = (sub_numbers binary64 q.y p.y (square-number binary64 (sub binary64 q.y p.y) s.1)).1 in
    rw (eq_self p.x x, eq_self p.y y)

pub record Kept (ps : List Vec2) (k : ℕ) (out : List Vec2) : Type 0 where
  pub some : 0 < length out
  pub few : length out ≤ k
  pub full : length out ≡ k → 1 < k → same_point (last_point out) (nth ps (k - 1)) ≡ true

module _ (cell : Float) (ps : List Vec2) where
  kept-one : (k : ℕ) (out : List Vec2) → Kept ps k out → (b : Bool) → (b ≡ true → same_point (nth ps k) (nth ps k) ≡ true) → Kept ps (k + 1) (cond b (out ++ (nth ps k ∷ [])) out)
  kept-one k out r true f = record {
    some = omega (arith, length_push out (nth ps k));
    few = omega (arith, length_push out (nth ps k), r.few);
    full = λ e h. ap (λ (q : Vec2). same_point q (nth ps (k + 1 - 1))) (last-push out (nth ps k)) ∙ ap (λ (m : ℕ). same_point (nth ps k) (nth ps m)) (let z : k + 1 - 1 ≡ k = omega arith in z) ∙ f refl;
  }
  kept-one k out r false f = record { some = r.some; few = omega (arith, r.few); full = λ e h. absurd (let z : ⊥ = omega (arith, r.few) in z) }

  kept_more : (k : ℕ) (out : List Vec2) → Kept ps k out → Kept ps (k + 1) (keep_at cell ps k out)
  unfolding keep_at
  kept_more k out r = kept-one k out r (le cell (distance_of (last_point out) (nth ps k))) (apart-same cell (last_point out) (nth ps k))

  pub kept-all : 1 < length ps → Kept ps (length ps) (spaced cell ps)
  unfolding spaced
  kept-all h =
      loop_both (keep_at cell ps) (keep_at cell ps) (λ k out o. Kept ps k out) 1 (length ps) (omega arith)
      (λ i s u a b r. kept_more i s r)
      (nth ps 0 ∷ []) (nth ps 0 ∷ []) (record { some = omega arith; few = omega arith; full = λ e k. absurd (let z : ⊥ = omega arith in z) })

module _ (closed : Bool) (cell : Float) (n : ℕ) (W t : List Float) (m : ℕ) (h : 1 < n) (l : 2 * n ≤ length W) (r : Begins (spaced cell (points 0 n W)) n W m t) where
  whole : Kept (points 0 n W) n (spaced cell (points 0 n W))
  whole = subst (λ (k : ℕ). Kept (points 0 n W) k (spaced cell (points 0 n W))) (points-length 0 n W) (kept-all cell (points 0 n W) (omega (arith, points-length 0 n W)))

  count : length (spaced cell (points 0 n W)) ≡ m
  count = ap length (sym r.is) ∙ points-length 0 m t

  pub kept-some : 0 < m
  kept-some = omega (arith, count, whole.some)

  last-kept : last_point (spaced cell (points 0 n W)) ≡ vertex_of t (m - 1)
  last-kept = ap last_point (sym r.is) ∙ points-last m t kept-some

  pub resample_closed : closed ≡ true → Begins (resampled closed cell (points 0 n W)) n W m t
  unfolding resampled ended_at
  resample_closed e = rw e r

  module _ (o : closed ≡ false) (last end : Vec2) (b : Bool) (L : last ≡ vertex_of t (m - 1)) (E : end ≡ vertex_of W (n - 1)) (B : b ≡ same_point last end) where
    last-is : last ≡ last_point (spaced cell (points 0 n W))
    last-is = L ∙ sym last-kept

    end_is : end ≡ last_point (points 0 n W)
    end_is = E ∙ sym (points-last n W (omega arith))

    is_same : b ≡ same_point (last_point (spaced cell (points 0 n W))) (last_point (points 0 n W))
    is_same = B ∙ ap (λ (p : Vec2). same_point p end) last-is ∙ ap (same_point (last_point (spaced cell (points 0 n W)))) end_is

    pub resample_same : b ≡ true → Begins (resampled closed cell (points 0 n W)) n W m t
    unfolding resampled ended_at
    resample_same e = rw (o, ← is_same, e) r

    -- a place is left
    pub resample_room : b ≡ false → m < n
    resample_room e =
        by_cases (ltb m n) (ltb-true m n)
        (λ z.
        let q : m ≡ n = omega (arith, ltb-false m n z, r.few) in
        let here : last_point (points 0 n W) ≡ nth (points 0 n W) (n - 1) = points-last n W (omega arith) ∙ sym (points-at n (n - 1) W (omega arith)) in
        never (sym e ∙ is_same ∙ ap (same_point (last_point (spaced cell (points 0 n W)))) here ∙ whole.full (count ∙ q) h))

    pub resample_more : b ≡ false → (u : List Float) → u ≡ put_point m end t → Begins (resampled closed cell (points 0 n W)) n W (m + 1) u
    unfolding resampled ended_at
    resample_more e u U =
        let room = resample_room e in
        rw (U, o, ← is_same, e) (record {
          is = points-push m end t (omega (arith, r.long)) ∙ ap (λ (q : List Vec2). q ++ (end ∷ [])) r.is ∙ ap (λ (q : Vec2). spaced cell (points 0 n W) ++ (q ∷ [])) end_is;
          few = omega arith;
          long = put-length m end t ∙ r.long;
        })

-- ---- a piece

module _ (closed : Bool) (cell : Float) (n : ℕ) (W : List Float) where
  pub smooth_few : n < 3 → Begins (smooth_of closed cell (points 0 n W)) n W n W
  unfolding smooth_of
  smooth_few h = record { is = sym (rw (lt-ltb (length (points 0 n W)) 3 (omega (arith, points-length 0 n W))) refl); few = omega arith; long = refl }

  pub smooth_is : (w t : List Float) (m : ℕ) → 3 ≤ n → points 0 n w ≡ loop (λ i q. averaged closed q) 0 3 (points 0 n W) → length w ≡ length W
      → Begins (resampled closed cell (points 0 n w)) n w m t → Begins (smooth_of closed cell (points 0 n W)) n W m t
  unfolding smooth_of
  smooth_is w t m h e d r = record {
    is = r.is ∙ ap (resampled closed cell) e ∙ sym (rw (le-ltb (length (points 0 n W)) 3 (omega (arith, points-length 0 n W))) refl);
    few = r.few;
    long = r.long ∙ d;
  }
