-- Each way through the functions of `guide`, over plain values: callees' results are variables, what they ensure are hypotheses. Assumes nothing.
use mathlib.Core.Path.{◌≡◌, refl, sym, ap, ◌∙◌, subst}
use mathlib.Core.Bool.{Bool, true, false, cond, ◌&&◌}
use mathlib.Core.List.{List, [], ◌∷◌, ◌++◌, append_assoc, append-nil}
use Prim.Native.Nat.{ℕ, zero, suc, ◌+◌, ◌-◌, ◌*◌, ◌/◌, ◌≤◌, ◌<◌}
use native.Mathlib.Omega.{arith}
use lib.ListN.{length, get_or, drop, length-append, get_or-append}
use lib.Seq.{drop_at}
use lib.Dec.{ltb}
use lib.Ieee.{Float, binary64, add, mul, div, le}
use borrow.Author.Tests.{lt-ltb, le-ltb, ltb-true, eq-eqb, ne_eqb}
use Rattle.loops.specs.Loop.{turns, loop, Run, on, out, turn}
use Rattle.loops.proofs.Cases.{by_cases, by_test}
use Rattle.loops.proofs.LoopLaws.{loop_split, loop_keeps, Going, going_none, going_on, going_out, going_end}
use Rattle.numbers.specs.Order.{min_of}
use Rattle.numbers.specs.Circle.{pi, cos_of}
use Rattle.numbers.specs.Small.{f1, f2, f3, half}
use Rattle.geom.specs.Vec.{f0, sum, difference, scaled, perp_of, distance_of, normalized_of}
use Rattle.geom.specs.Region.{vertex_of}
use Rattle.geom.specs.Points.{put_point, points}
use Rattle.geom.specs.declared.vec2.Vec2.{Vec2}
use Rattle.geom.proofs.PointLaws.{put-length, put_there, points-length, points-same, points_more}
use Rattle.setup.specs.Place.{bite_of}
use Rattle.setup.specs.declared.Setup.{Setup}
use Rattle.passes.specs.declared.guide.Blend.{Blend}
use Rattle.std.specs.Prelude.{Option as RustOption, Some, None}
use Rattle.passes.specs.Simulate.{nowhere}
use Rattle.passes.specs.Guide.{blend, add_leg, path_length, length_so_far, bent_at, Bend, bd, after_of, before_of, bend_step, bent_end, bent_of, far_of, chosen, len_of, attempt, choose_of}
use Rattle.passes.proofs.SimulateLaws.{point_in_lem}

-- ---- the length

module _ (w : List Float) (n : ℕ) where
  pub leg_added : (k : ℕ) (t : Float) (a b : Vec2) (d : Float) → k < n → a ≡ vertex_of w (k - 1) → b ≡ vertex_of w k → d ≡ distance_of a b → add binary64 t d ≡ add_leg (points 0 n w) k t
  unfolding add_leg
  leg_added k t a b d h A B D = rw (point_in_lem w n (k - 1) (omega arith), point_in_lem w n k h, ← A, ← B, ← D)

  pub total-is : (t : Float) → t ≡ loop (add_leg (points 0 n w)) 1 n f0 → t ≡ path_length (points 0 n w)
  unfolding path_length
  total-is t e = rw (points-length 0 n w) e

  pub after_next : (k : ℕ) (a : Vec2) → k + 1 < n → a ≡ vertex_of w (k + 1) → a ≡ after_of (points 0 n w) k
  unfolding after_of
  after_next k a h A = rw (points-length 0 n w, lt-ltb (k + 1) n h, point_in_lem w n (k + 1) h) A

  pub after_last : (k : ℕ) (a : Vec2) → k < n → n ≤ k + 1 → a ≡ vertex_of w k → a ≡ after_of (points 0 n w) k
  unfolding after_of
  after_last k a h l A = rw (points-length 0 n w, le-ltb (k + 1) n l, point_in_lem w n k h) A

-- by the length of the slice, which is that of w₀
pub after-long : (w w₀ : List Float) (k : ℕ) (a : Vec2) → length w ≡ length w₀ → a ≡ after_of (points 0 (length w / 2) w) k → a ≡ after_of (points 0 (length w₀ / 2) w) k
after-long w w₀ k a e A = A ∙ ap (λ (i : ℕ). after_of (points 0 (i / 2) w) k) e

module _ (k : ℕ) (s : Float) (b p : Vec2) where
  pub along_more : 0 < k → (d : Float) → d ≡ distance_of b p → add binary64 s d ≡ length_so_far k s b p
  unfolding length_so_far
  along_more h d D = rw (lt-ltb 0 k h, ← D)

  pub along-none : k ≤ 0 → s ≡ length_so_far k s b p
  unfolding length_so_far
  along-none h = rw (le-ltb 0 k h)

pub bent_is : (len far : Float) (p a b : Vec2) (s : Float) (d t : Vec2) (c : Float) (u x y z q : Vec2) → d ≡ difference a b → t ≡ normalized_of d → c ≡ cos_of (div binary64 (mul binary64 pi s) len)
    → u ≡ perp_of t → x ≡ scaled u far → y ≡ scaled x half → z ≡ scaled y (add binary64 f1 c) → q ≡ sum p z → q ≡ bent_at len far p a b s
unfolding bent_at
bent_is len far p a b s d t c u x y z q D T C U X Y Z Q = rw (← C, ← D, ← T, ← U, ← X, ← Y, ← Z) Q

-- ---- where the bent guide begins

head_kept : (l r : List Vec2) (q : Vec2) → (0 < length l) × (get_or l 0 nowhere ≡ q) → (0 < length (l ++ r)) × (get_or (l ++ r) 0 nowhere ≡ q)
head_kept l r q g =
    let h : 0 < length l = g.0 in
    let n : 0 < length (l ++ r) = omega (arith, length-append l r) in
    (n, get_or-append l r nowhere 0 h ∙ g.1)

module _ (len far : Float) (pts : List Vec2) (h : 0 < length pts) where
  abbrev all : Run Bend (List Vec2)
  all = loop (turn (bend_step len far pts)) 0 (length pts) (on (bd f0 []))

  stays : le len f0 ≡ true → bent_of len far pts ≡ pts
  unfolding bent_of bent_end bend_step length_so_far
  stays e = ap bent_end (going_out (bend_step len far pts) 0 (length pts) (on (bd f0 [])) (bd f0 []) 0 pts (going_none _ _ _ _) h (rw e))

  -- what begins with q goes on to begin with it
  abbrev Heads : Vec2 → Run Bend (List Vec2) → Type 0
  Heads q (on t) = (0 < length t.res) × (get_or t.res 0 nowhere ≡ q)
  Heads q (out l) = get_or l 0 nowhere ≡ q

  heads_step : (q : Vec2) (i : ℕ) (r : Run Bend (List Vec2)) → Heads q r → Heads q (turn (bend_step len far pts) i r)
  unfolding turn bend_step
  heads_step q i (out l) g = g
  heads_step q i (on t) g =
      by_test (Heads q) (le len _) _ _
      (λ b. (head_kept t.res (drop i pts) q g).1)
      (λ b. head_kept t.res _ q g)

  heads_end : (q : Vec2) (r : Run Bend (List Vec2)) → Heads q r → get_or (bent_end r) 0 nowhere ≡ q
  unfolding bent_end
  heads_end q (on t) g = g.1
  heads_end q (out l) g = g

  abbrev first : Vec2
  first = bent_at len far (get_or pts 0 nowhere) (after_of pts 0) (get_or pts 0 nowhere) f0

  one-turn : le len f0 ≡ false → loop (turn (bend_step len far pts)) 0 1 (on (bd f0 [])) ≡ on (bd f0 (first ∷ []))
  unfolding loop turns turn bend_step length_so_far before_of
  one-turn e = rw e

  bends : le len f0 ≡ false → get_or (bent_of len far pts) 0 nowhere ≡ first
  unfolding bent_of
  bends e =
      heads_end first all
      (subst (Heads first) (sym (loop_split (turn (bend_step len far pts)) 0 1 (length pts) (on (bd f0 [])) (omega arith) h ∙ ap (loop (turn (bend_step len far pts)) 1 (length pts)) (one-turn e)))
      (loop_keeps (turn (bend_step len far pts)) 1 (Heads first) (length pts) (λ i r a b g. heads_step first i r g) (on (bd f0 (first ∷ []))) (omega arith, refl)))

module _ (len far : Float) (w : List Float) (n : ℕ) (h : 1 ≤ n) (p : Vec2) (P : p ≡ vertex_of w 0) where
  some : 0 < length (points 0 n w)
  some = omega (arith, points-length 0 n w)

  pub first-stays : le len f0 ≡ true → p ≡ get_or (bent_of len far (points 0 n w)) 0 nowhere
  first-stays e = rw (stays len far (points 0 n w) some e, point_in_lem w n 0 h) P

  pub first_bends : le len f0 ≡ false → (a q : Vec2) → a ≡ after_of (points 0 n w) 0 → q ≡ bent_at len far p a p f0 → q ≡ get_or (bent_of len far (points 0 n w)) 0 nowhere
  first_bends e a q A Q = rw (bends len far (points 0 n w) some e, point_in_lem w n 0 h, ← P, ← A) Q

-- ---- the loop that bends the guide in its place: the points before k are bent, and those from k on are as they were

pub record Bending (len far : Float) (w₀ : List Float) (n : ℕ) (w : List Float) (s : Float) (b : Vec2) (k : ℕ) : Type 0 where
  pub going : Going (turn (bend_step len far (points 0 n w₀))) 0 n (on (bd f0 [])) (on (bd s (points 0 k w))) k
  pub long : length w ≡ length w₀
  pub rest : (i : ℕ) → k ≤ i → vertex_of w i ≡ vertex_of w₀ i
  pub before : b ≡ cond (ltb 0 k) (vertex_of w₀ (k - 1)) (vertex_of w₀ k)

points_split : (w : List Float) (a k j : ℕ) → points a (k + j) w ≡ points a k w ++ points (a + k) j w
unfolding points
points_split w a k zero = ap (λ (i : ℕ). points a i w) (let z : k + zero ≡ k = omega arith in z) ∙ sym (append-nil (points a k w))
points_split w a k (suc j) =
    ap (λ (i : ℕ). points a i w) (let z : k + suc j ≡ suc (k + j) = omega arith in z)
    ∙ ap (λ (l : List Vec2). l ++ (vertex_of w (a + (k + j)) ∷ [])) (points_split w a k j)
    ∙ append_assoc (points a k w) (points (a + k) j w) (vertex_of w (a + (k + j)) ∷ [])
    ∙ ap (λ (i : ℕ). points a k w ++ (points (a + k) j w ++ (vertex_of w i ∷ []))) (let z : a + (k + j) ≡ a + k + j = omega arith in z)

module _ (len far : Float) (w₀ : List Float) (n : ℕ) where
  pub bending_none : (b : Vec2) → b ≡ vertex_of w₀ 0 → Bending len far w₀ n w₀ f0 b 0
  unfolding points
  bending_none b B = record { going = going_none _ _ _ _; long = refl; rest = λ i h. refl; before = B }

  module _ (w : List Float) (s : Float) (b : Vec2) (k : ℕ) (I : Bending len far w₀ n w s b k) where
    -- the pieces of w₀'s points before k and from k on
    left_over : k ≤ n → points 0 n w ≡ points 0 k w ++ drop k (points 0 n w₀)
    left_over h =
        let e : n ≡ k + (n - k) = omega arith in
        ap (λ (i : ℕ). points 0 i w) e
        ∙ points_split w 0 k (n - k)
        ∙ ap (λ (l : List Vec2). points 0 k w ++ l) (points-same (0 + k) (n - k) w w₀ (λ i d. I.rest (0 + k + i) (omega arith)))
        ∙ ap (λ (l : List Vec2). points 0 k w ++ l)
        (sym (ap (λ (i : ℕ). drop k (points 0 i w₀)) e ∙ ap (drop k) (points_split w₀ 0 k (n - k)) ∙ drop_at (points 0 k w₀) (points (0 + k) (n - k) w₀) k (points-length 0 k w₀)))

    pub bending_end : n ≤ k → points 0 n w ≡ bent_of len far (points 0 n w₀)
    unfolding bent_of bent_end
    bending_end h =
        let e : n ≡ k = omega (arith, I.going.high) in
        rw (points-length 0 n w₀) (ap (λ (i : ℕ). points 0 i w) e ∙ ap bent_end (going_end _ _ _ _ _ _ I.going h))

    module _ (h : k < n) (p : Vec2) (P : p ≡ vertex_of w k) (t : Float) (T : t ≡ length_so_far k s b p) where
      here : p ≡ get_or (points 0 n w₀) k nowhere
      here = P ∙ I.rest k (omega arith) ∙ sym (point_in_lem w₀ n k h)

      there : b ≡ before_of (points 0 n w₀) k
      unfolding before_of
      there = rw (point_in_lem w₀ n (k - 1) (omega arith), point_in_lem w₀ n k h) I.before

      so_far : t ≡ length_so_far k s (before_of (points 0 n w₀) k) (get_or (points 0 n w₀) k nowhere)
      so_far = T ∙ ap (λ (c : Vec2). length_so_far k s c p) there ∙ ap (length_so_far k s (before_of (points 0 n w₀) k)) here

      pub bending_out : le len t ≡ true → points 0 n w ≡ bent_of len far (points 0 n w₀)
      unfolding bent_of bent_end bend_step
      bending_out e =
          rw (points-length 0 n w₀)
          (left_over (omega arith)
          ∙ sym (ap bent_end (going_out (bend_step len far (points 0 n w₀)) 0 n (on (bd f0 [])) (bd s (points 0 k w)) k (points 0 k w ++ drop k (points 0 n w₀)) I.going h (rw (← so_far, e)))))

      module _ (e : le len t ≡ false) (a : Vec2) (A : a ≡ after_of (points 0 n w) k) (q : Vec2) (Q : q ≡ bent_at len far p a b t) (w' : List Float) (W : w' ≡ put_point k q w) (fits : 2 * k + 1 < length w) where
        after_same : a ≡ after_of (points 0 n w₀) k
        unfolding after_of
        after_same =
            A ∙ by_cases (ltb (k + 1) n)
            (λ d. let l = ltb-true (k + 1) n d in
            rw (points-length 0 n w, points-length 0 n w₀, d, point_in_lem w n (k + 1) l, point_in_lem w₀ n (k + 1) l) (I.rest (k + 1) (omega arith)))
            (λ d. rw (points-length 0 n w, points-length 0 n w₀, d, point_in_lem w n k h, point_in_lem w₀ n k h) (I.rest k (omega arith)))

        one_more_lem : points 0 (k + 1) w' ≡ points 0 k w ++ (q ∷ [])
        one_more_lem =
            ap (λ (v : List Float). points 0 (k + 1) v) W
            ∙ ap (λ (i : ℕ). points 0 i (put_point k q w)) (let z : k + 1 ≡ suc k = omega arith in z)
            ∙ ap (λ (i : ℕ). points 0 (suc k) (put_point i q w)) (let z : k ≡ 0 + k = omega arith in z)
            ∙ points_more 0 k q w (omega arith)

        step-on : on (bd t (points 0 (k + 1) w')) ≡ bend_step len far (points 0 n w₀) k (bd s (points 0 k w))
        unfolding bend_step
        step-on = rw (← so_far, e, ← here, ← there, ← after_same, ← Q, one_more_lem)

        pub bending_more : Bending len far w₀ n w' t p (k + 1)
        bending_more = record {
          going = going_on _ _ _ _ _ _ _ I.going h step-on;
          long = ap length W ∙ put-length k q w ∙ I.long;
          rest = λ i d. ap (λ (v : List Float). vertex_of v i) W ∙ put_there k q w i (λ z. omega arith) ∙ I.rest i (omega arith);
          before = P ∙ I.rest k (omega arith) ∙ first_of;
        }
          where
            first_of : vertex_of w₀ k ≡ cond (ltb 0 (k + 1)) (vertex_of w₀ (k + 1 - 1)) (vertex_of w₀ (k + 1))
            first_of = rw (lt-ltb 0 (k + 1) (omega arith)) (ap (vertex_of w₀) (let z : k ≡ k + 1 - 1 = omega arith in z))

-- ---- the ways out

module _ (cell r bite : Float) (k : ℕ) where
  pub far-first : k ≡ 0 → add binary64 bite (mul binary64 f2 cell) ≡ far_of cell r bite k
  unfolding far_of
  far-first e = rw (eq-eqb k 0 e)

  module _ (a : k ≡ 0 → ⊥) where
    pub far_second : k ≡ 1 → add binary64 (mul binary64 f2 bite) (mul binary64 f3 cell) ≡ far_of cell r bite k
    unfolding far_of
    far_second e = rw (ne_eqb k 0 a, eq-eqb k 1 e)

    pub far_third : (k ≡ 1 → ⊥) → add binary64 (mul binary64 half r) bite ≡ far_of cell r bite k
    unfolding far_of
    far_third b = rw (ne_eqb k 0 a, ne_eqb k 1 b)

pub starts_no : (allowed free : Vec2 → Bool) (q : Vec2) (a : Bool) → a ≡ allowed q → a ≡ false → false ≡ (allowed q && free q)
starts_no allowed free q a A e = rw (← A, e)

pub starts_yes : (allowed free : Vec2 → Bool) (q : Vec2) (a f : Bool) → a ≡ allowed q → a ≡ true → f ≡ free q → f ≡ (allowed q && free q)
starts_yes allowed free q a f A e F = rw (← A, e) F

pub len_is : (s : Setup) (pts : List Vec2) (t len : Float) → t ≡ path_length pts → len ≡ min_of (mul binary64 f3 s.r) (mul binary64 half t) → len ≡ len_of s pts
unfolding len_of
len_is s pts t len T L = rw (← T) L

module _ (s : Setup) (allowed free : Vec2 → Bool) (pts : List Vec2) (len : Float) where
  module _ (k : ℕ) (bite far : Float) (q : Vec2) (t : Bool) (B : bite ≡ bite_of s) (F : far ≡ far_of s.grid.cell s.r bite k) (Q : q ≡ get_or (bent_of len far pts) 0 nowhere) (T : t ≡ (allowed q && free q)) where
    same-far : far ≡ far_of s.grid.cell s.r (bite_of s) k
    same-far = F ∙ ap (λ (b : Float). far_of s.grid.cell s.r b k) B

    pub attempt-yes : t ≡ true → attempt s allowed free pts len k tt ≡ out (Some (blend len far))
    unfolding attempt
    attempt-yes e = rw (← same-far, ← Q, ← T, e)

    pub attempt-no : t ≡ false → on tt ≡ attempt s allowed free pts len k tt
    unfolding attempt
    attempt-no e = rw (← same-far, ← Q, ← T, e)

  module _ (L : len ≡ len_of s pts) where
    pub choose_short : le len s.grid.cell ≡ true → None ≡ choose_of s allowed free pts
    unfolding choose_of
    choose_short e = rw (← L, e)

    module _ (e : le len s.grid.cell ≡ false) where
      pub choose_out : (b : RustOption Blend) → loop (turn (attempt s allowed free pts len)) 0 3 (on tt) ≡ out b → b ≡ choose_of s allowed free pts
      unfolding choose_of chosen
      choose_out b d = rw (← L, e) (ap chosen (sym d))

      pub choose_none : on tt ≡ loop (turn (attempt s allowed free pts len)) 0 3 (on tt) → None ≡ choose_of s allowed free pts
      unfolding choose_of chosen
      choose_none d = rw (← L, e) (ap chosen d)
