-- The path laid from its end on: what is laid, and what the walk back still adds, is the whole path. Assumes nothing.
use mathlib.Core.Path.{◌≡◌, refl, sym, ap, ◌∙◌, subst}
use mathlib.Core.List.{List, [], ◌∷◌, ◌++◌}
use Prim.Native.Nat.{ℕ, zero, suc, ◌+◌, ◌-◌, ◌*◌, ◌≤◌, ◌<◌}
use native.Mathlib.Omega.{arith}
use lib.ListN.{length, get_or}
use lib.Ieee.{Float}
use borrow.Author.Tests.{eq-eqb, ne_eqb}
use Rattle.geom.specs.Region.{vertex_of}
use Rattle.geom.specs.Points.{put_point, points}
use Rattle.geom.specs.declared.vec2.Vec2.{Vec2}
use Rattle.geom.proofs.PointLaws.{put-length, put-here, put_there, points-same}
use Rattle.links.specs.declared.lattice.Lattice.{Lattice}
use Rattle.links.specs.Lattice.{nodes, centre_of, Laid}
use Rattle.links.specs.Search.{no_node, Befores}
use Rattle.links.specs.declared.NodeNo.{NodeNo}
use Rattle.links.specs.Node.{node_no, node_in}
use Rattle.links.specs.Path.{back_of, nodes_of}

-- ---- points, the first one apart

pub points-first : (a n : ℕ) (w : List Float) → points a (suc n) w ≡ vertex_of w a ∷ points (a + 1) n w
unfolding points
points-first a zero w = ap (λ (k : ℕ). vertex_of w k ∷ []) (let e : a + 0 ≡ a = omega arith in e)
points-first a (suc n) w =
    ap (λ (l : List Vec2). l ++ (vertex_of w (a + suc n) ∷ [])) (points-first a n w)
    ∙ ap (λ (k : ℕ). vertex_of w a ∷ (points (a + 1) n w ++ (vertex_of w k ∷ []))) (let e : a + suc n ≡ a + 1 + n = omega arith in e)

-- a point is put before the others
pub points-front : (a n : ℕ) (p : Vec2) (w : List Float) → 2 * a + 1 < length w → points a (suc n) (put_point a p w) ≡ p ∷ points (a + 1) n w
points-front a n p w h =
    points-first a n (put_point a p w)
    ∙ ap (λ (q : Vec2). q ∷ points (a + 1) n (put_point a p w)) (put-here a p w h)
    ∙ ap (λ (l : List Vec2). p ∷ l) (points-same (a + 1) n (put_point a p w) w (λ k b. put_there a p w (a + 1 + k) (λ e. omega arith)))

-- ---- the walk back

module _ (l : Lattice) (before : List ℕ) (v : ℕ) (ps : List Vec2) where
  back_none : (n : ℕ) → v ≡ no_node → back_of l before n v ps ≡ ps
  unfolding back_of
  back_none zero e = refl
  back_none (suc n) e = rw (eq-eqb v no_node e)

  back_start : (n : ℕ) → (v ≡ no_node → ⊥) → v ≡ l.start.0 → back_of l before n v ps ≡ ps
  unfolding back_of
  back_start zero d e = refl
  back_start (suc n) d e = rw (ne_eqb v no_node d, eq-eqb v l.start.0 e)

  back_more : (n : ℕ) → 0 < n → (v ≡ no_node → ⊥) → (v ≡ l.start.0 → ⊥) → back_of l before n v ps ≡ back_of l before (n - 1) (get_or before v 0) (centre_of l (node_no v) ∷ ps)
  unfolding back_of
  back_more zero h d e = absurd (let z : ⊥ = omega arith in z)
  back_more (suc n) h d e =
      rw (ne_eqb v no_node d, ne_eqb v l.start.0 e) (ap (λ (k : ℕ). back_of l before k (get_or before v 0) (centre_of l (node_no v) ∷ ps)) (let z : n ≡ suc n - 1 = omega arith in z))

-- the points from k on are laid, the walk is at v, and the whole path is `all`
pub record Laying (l : Lattice) (before : List ℕ) (all : List Vec2) (ps : List Float) (k v : ℕ) : Type 0 where
  pub low : k < nodes l
  pub node : (v ≡ no_node → ⊥) → v < nodes l
  pub room : 2 * nodes l ≤ length ps
  pub rest : back_of l before k v (points k (nodes l - k) ps) ≡ all

-- what the walk from point n - 1 on makes
abbrev pub all_from : Lattice → List ℕ → ℕ → List Float → ℕ → List Vec2
all_from l before k ps v = back_of l before k v (points k (nodes l - k) ps)

module _ (l : Lattice) (L : Laid l) (before : List ℕ) (K : Befores (nodes l) before) where
  module _ (to : Vec2) (ps ps' : List Float) (h : 2 * nodes l ≤ length ps) (n : ℕ) (N : n ≡ nodes l) (P : ps' ≡ put_point (n - 1) to ps) where
    from_goal : Laying l before (all_from l before (n - 1) ps' (get_or before l.goal.0 0)) ps' (n - 1) (get_or before l.goal.0 0)
    from_goal = record {
      low = omega (arith, L.last);
      node = K.known l.goal.0 L.last;
      room = omega (arith, ap length P, put-length (n - 1) to ps);
      rest = refl;
    }

    all-from_goal : all_from l before (n - 1) ps' (get_or before l.goal.0 0) ≡ nodes_of l before to
    unfolding nodes_of points
    all-from_goal =
        let v = get_or before l.goal.0 0 in
        let g = L.last in
        let p : points (n - 1) (suc 0) (put_point (n - 1) to ps) ≡ to ∷ points (n - 1 + 1) 0 ps = points-front (n - 1) 0 to ps (omega arith) in
        ap (λ (c : ℕ). back_of l before (n - 1) v (points (n - 1) c ps')) (let b : nodes l - (n - 1) ≡ suc 0 = omega arith in b)
        ∙ ap (back_of l before (n - 1) v) (ap (points (n - 1) (suc 0)) P ∙ p)
        ∙ ap (λ (c : ℕ). back_of l before c v (to ∷ [])) (let a : n - 1 ≡ nodes l - 1 = omega arith in a)

    -- v is the node before the goal
    module _ (i : ℕ) (G : i ≡ l.goal.0) (v : NodeNo) (U : v ≡ node_in before i) where
      goal_is : v.0 ≡ get_or before l.goal.0 0
      goal_is = ap (λ (x : NodeNo). x.0) U ∙ ap (λ (k : ℕ). get_or before k 0) G

      pub laying_none : Laying l before (all_from l before (n - 1) ps' v.0) ps' (n - 1) v.0
      laying_none = subst (λ (x : ℕ). Laying l before (all_from l before (n - 1) ps' x) ps' (n - 1) x) (sym goal_is) from_goal

      pub laying_all : all_from l before (n - 1) ps' v.0 ≡ nodes_of l before to
      laying_all = ap (all_from l before (n - 1) ps') goal_is ∙ all-from_goal

  module _ (all : List Vec2) (ps : List Float) (k v : ℕ) (I : Laying l before all ps k v) where
    pub laying_stop : v ≡ no_node → points k (nodes l - k) ps ≡ all
    laying_stop e = sym (back_none l before v (points k (nodes l - k) ps) k e) ∙ I.rest

    pub laying_start : (v ≡ no_node → ⊥) → v ≡ l.start.0 → points k (nodes l - k) ps ≡ all
    laying_start d e = sym (back_start l before v (points k (nodes l - k) ps) k d e) ∙ I.rest

    pub laying_end : k ≤ 0 → points k (nodes l - k) ps ≡ all
    unfolding back_of
    laying_end h = sym (ap (λ (n : ℕ). back_of l before n v (points k (nodes l - k) ps)) (let z : k ≡ 0 = omega arith in z)) ∙ I.rest

    back_one : 0 < k → (v ≡ no_node → ⊥) → (v ≡ l.start.0 → ⊥) → (p : Vec2) → p ≡ centre_of l (node_no v) → (ps' : List Float) → ps' ≡ put_point (k - 1) p ps → Laying l before all ps' (k - 1) (get_or before v 0)
    back_one z d e p P ps' P' =
        let low = I.low in
        let room = I.room in
        let q : points (k - 1) (suc (nodes l - k)) (put_point (k - 1) p ps) ≡ p ∷ points (k - 1 + 1) (nodes l - k) ps = points-front (k - 1) (nodes l - k) p ps (omega arith) in
        record {
          low = omega arith;
          node = K.known v (I.node d);
          room = omega (arith, ap length P', put-length (k - 1) p ps);
          rest = ap (λ (c : ℕ). back_of l before (k - 1) (get_or before v 0) (points (k - 1) c ps')) (let w : nodes l - (k - 1) ≡ suc (nodes l - k) = omega arith in w)
              ∙ ap (back_of l before (k - 1) (get_or before v 0)) (ap (points (k - 1) (suc (nodes l - k))) P' ∙ q ∙ ap (λ (c : ℕ). p ∷ points c (nodes l - k) ps) (let w : k - 1 + 1 ≡ k = omega arith in w) ∙ ap (λ (x : Vec2). x ∷ points k (nodes l - k) ps) P)
              ∙ sym (back_more l before v (points k (nodes l - k) ps) k z d e)
              ∙ I.rest;
        }

    -- u is the node before v
    pub laying_more : 0 < k → (v ≡ no_node → ⊥) → (v ≡ l.start.0 → ⊥) → (p : Vec2) → p ≡ centre_of l (node_no v) → (ps' : List Float) → ps' ≡ put_point (k - 1) p ps
        → (i : ℕ) → i ≡ v → (u : NodeNo) → u ≡ node_in before i → Laying l before all ps' (k - 1) u.0
    laying_more z d e p P ps' P' i H u U =
        subst (Laying l before all ps' (k - 1)) (sym (ap (λ (x : NodeNo). x.0) U ∙ ap (λ (j : ℕ). get_or before j 0) H)) (back_one z d e p P ps' P')
