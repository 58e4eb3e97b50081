-- What the proofs of `start` cite, and that what is found is one of those that were asked for and none is nearer. Assumes nothing.
use Rattle.std.specs.Prelude.{Some, None}
use mathlib.Core.Path.{◌≡◌, sym, ap, ◌∙◌, subst}
use mathlib.Core.Bool.{Bool, true, false}
use mathlib.Core.List.{List}
use Prim.Native.Nat.{ℕ, ◌+◌, ◌*◌, ◌/◌, ◌≤◌, ◌<◌}
use native.Mathlib.Omega.{arith}
use native.Mathlib.Nat.{mod-lt}
use lib.ListN.{length}
use lib.Ieee.{Float}
use lib.Dec.{ltb}
use borrow.Author.Tests.{ltb-true, le-ltb}
use Rattle.loops.specs.Least.{least_by}
use Rattle.loops.proofs.Cases.{by_cases, by_test}
use Rattle.loops.proofs.LeastLaws.{Leads, leads-first, leads_new, leads-on, leads-end, Ordered, lower_ordered, least-below, least_first}
use Rattle.numbers.specs.Order.{rank_of, total_of}
use Rattle.std.specs.declared.cmp.Ordering.{Ordering}
use Rattle.geom.specs.Vec.{distance_of}
use Rattle.geom.specs.Region.{vertex_of}
use Rattle.geom.specs.Points.{points}
use Rattle.geom.specs.declared.vec2.Vec2.{Vec2}
use Rattle.geom.proofs.PointLaws.{points-length}
use Rattle.passes.specs.declared.start.Near.{Near}
use Rattle.passes.specs.Start.{Place, is_greater, is_nearer, nr, nearer, point_far, nearest_of, near_of, start_of}
use Rattle.passes.proofs.SimulateLaws.{point_in_lem}

pub nearer_by : (x y : Float) (o : Ordering) → o ≡ total_of y x → is_greater o ≡ is_nearer x y
unfolding is_nearer
nearer_by x y o O = ap is_greater O

module _ (b : Near) (k : ℕ) (d : Float) (g : Bool) (G : g ≡ is_nearer d b.far) where
  pub nearer_new : g ≡ true → nr k d ≡ nearer b k d
  unfolding nearer
  nearer_new e = rw (← G, e)

  pub nearer_old : g ≡ false → b ≡ nearer b k d
  unfolding nearer
  nearer_old e = rw (← G, e)

module _ (w : List Float) (n : ℕ) (p : Vec2) where
  -- of the points before k the nearest so far
  abbrev pub Nearest : Near → ℕ → Type 0
  Nearest b k = Leads is_nearer (point_far (points 0 n w) p) n b.at b.far k

  point-far : (k : ℕ) → k < n → (v : Vec2) (d : Float) → v ≡ vertex_of w k → d ≡ distance_of v p → d ≡ point_far (points 0 n w) p k
  point-far k h v d U D = D ∙ ap (λ (c : Vec2). distance_of c p) (U ∙ sym (point_in_lem w n k h))

  pub near_first : 1 ≤ n → (v : Vec2) (d : Float) → v ≡ vertex_of w 0 → d ≡ distance_of v p → Nearest (nr 0 d) 1
  near_first h v d U D = leads-first is_nearer (point_far (points 0 n w) p) n d (point-far 0 h v d U D)

  pub near-turn : (k : ℕ) → k < n → (v : Vec2) (d : Float) (b r : Near) → v ≡ vertex_of w k → d ≡ distance_of v p → r ≡ nearer b k d → Nearest b k → Nearest r (k + 1)
  unfolding nearer
  near-turn k h v d b r U D R l =
      let far : ℕ → Float = point_far (points 0 n w) p in
      let here : d ≡ far k = point-far k h v d U D in
      subst (λ (q : Near). Nearest q (k + 1)) (sym R)
      (by_test (λ (q : Near). Nearest q (k + 1)) (is_nearer d b.far) (nr k d) b
      (leads_new is_nearer far n b.at b.far k l h d here)
      (leads-on is_nearer far n b.at b.far k l h d here))

  pub near-end : (b : Near) (k : ℕ) → Nearest b k → n ≤ k → b.at ≡ nearest_of (points 0 n w) p
  unfolding nearest_of
  near-end b k l h = leads-end is_nearer (point_far (points 0 n w) p) n b.at b.far k l h ∙ ap (least_by is_nearer (point_far (points 0 n w) p)) (sym (points-length 0 n w))

pub near_none : (pts : List Vec2) (pos : Place) → pos ≡ None → 0 ≡ near_of pts pos
unfolding near_of
near_none pts pos e = rw e

pub near-some : (pts : List Vec2) (pos : Place) (p : Vec2) → pos ≡ Some p → (b : ℕ) → b ≡ nearest_of pts p → b ≡ near_of pts pos
unfolding near_of
near-some pts pos p e b B = rw e B

-- ---- which one is found

-- nearer is of lower rank
nearer_rank : (x y : Float) → is_nearer x y ≡ ltb (rank_of x) (rank_of y)
unfolding is_nearer total_of is_greater
nearer_rank x y =
    by_cases (ltb (rank_of y) (rank_of x))
    (λ t. rw (t, le-ltb (rank_of x) (rank_of y) (omega (arith, ltb-true (rank_of y) (rank_of x) t))))
    (λ t. by_cases (ltb (rank_of x) (rank_of y)) (λ u. rw (t, u)) (λ u. rw (t, u)))

-- by how far something is
pub nearer-ordered : {K : Type 0} (far : K → Float) → Ordered (λ (x y : K). is_nearer (far x) (far y))
nearer-ordered far = subst Ordered (λ i x y. sym (nearer_rank (far x) (far y)) i) (lower_ordered (λ x. rank_of (far x)))

-- none is nearer
pub nearest-first : (pts : List Vec2) (p : Vec2) (j : ℕ) → j < length pts → is_nearer (point_far pts p j) (point_far pts p (nearest_of pts p)) ≡ false
unfolding nearest_of
nearest-first pts p j h = least_first is_nearer (point_far pts p) (nearer-ordered (λ x. x)) (length pts) (omega arith) j h

pub near-below : (pts : List Vec2) (pos : Place) → 0 < length pts → near_of pts pos < length pts
unfolding near_of nearest_of
near-below pts None h = h
near-below pts (Some p) h = least-below is_nearer (point_far pts p) (length pts) h

pub start-below : (near n k : ℕ) → 0 < n → start_of near n k < n
unfolding start_of
start-below near n k h = mod-lt (near + k * n / 4) h
