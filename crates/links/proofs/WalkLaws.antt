-- The walk back always ends: costs do not fall along it, since a sum with a distance is no less, so a node that is improved is on no walk from the one before it. Assumes nothing.
use mathlib.Core.Path.{◌≡◌, refl, sym, ap, ◌∙◌, subst}
use mathlib.Core.Bool.{true, false}
use mathlib.Core.List.{List, [], ◌∷◌}
use Prim.Native.Nat.{ℕ, zero, suc, ◌+◌, ◌-◌, ◌*◌, ◌≤◌, ◌<◌}
use native.Mathlib.Omega.{arith}
use native.Mathlib.Nat.{mul-pos, mul_assoc, mul_comm, add-mul}
use lib.Dec.{T, eqb, ltb}
use lib.ListN.{length, get_or, set, replicate, length-set, length-replicate, get_or-replicate}
use lib.Seq.{get_or-set_same, get_or-set_other}
use lib.Ieee.{Float, Format, nan, inf, fin, up, down, sum, add, lt, le, eq, is_nan, fits, binary64, of_bits}
use lib.Ieee.Fits.{down_pos, add-fits}
use borrow.Author.Tests.{eq-eqb}
use Rattle.loops.specs.Loop.{loop, Run, on, out, turn}
use Rattle.loops.proofs.Cases.{never, by_test, by_cases}
use Rattle.loops.proofs.LoopLaws.{loop_keeps}
use Rattle.floats.proofs.ExactLaws.{round-at-least}
use Rattle.floats.proofs.SignLaws.{unsigned, round_unsigned}
use Rattle.floats.proofs.SquareLaws.{sum_unsigned, sum-numbers, squares_unsigned}
use Rattle.floats.proofs.OrderLaws.{le_lt, lt_le, lt_to_le, lt_irrefl, lt_numbers}
use Rattle.numbers.specs.Root.{root_of}
use Rattle.geom.specs.Vec.{f0, square_of, distance_of}
use Rattle.geom.specs.declared.vec2.Vec2.{Vec2}
use Rattle.links.specs.declared.NodeNo.{NodeNo}
use Rattle.links.specs.declared.heap.Entry.{Entry}
use Rattle.links.specs.declared.lattice.Lattice.{Lattice}
use Rattle.std.specs.Prelude.{Option, Some, None}
use Rattle.links.specs.Heap.{count}
use Rattle.links.specs.Lattice.{nodes, centre_of, beside_of, IsNode, Laid}
use Rattle.links.specs.Search.{Search, st, top, no_node, started, improved, candidate, offer_of, reachable, visit_at, visit_of, expand_of, Outcome, seek_next, seek_step, ended, seek_of}
use Rattle.links.specs.Path.{back_of}
use Rattle.links.proofs.OpenLaws.{which}
use Rattle.links.proofs.LatticeLaws.{beside_node}
use Rattle.links.proofs.SeekLaws.{beyond, node-first, SoundRun, sound_started, sound_turn, sound_seek}
use Rattle.links.proofs.BackLaws.{walk, stop, Ended, walk-next, ended-next, path-all}

-- ---- sums and distances

-- x ≤ x + y
pub sum_grows : (f : Format) (x y : Float) → T (fits f x) → T (unsigned x) → T (unsigned y) → le x (add f x y) ≡ true
unfolding add sum le lt eq
sum_grows f nan y F A B = absurd A
sum_grows f (inf true) y F A B = absurd A
sum_grows f (inf false) nan F A B = absurd B
sum_grows f (inf false) (inf true) F A B = absurd B
sum_grows f (inf false) (inf false) F A B = refl
sum_grows f (inf false) (fin t n d) F A B = refl
sum_grows f (fin true m e) y F A B = absurd A
sum_grows f (fin false m e) nan F A B = absurd B
sum_grows f (fin false m e) (inf true) F A B = absurd B
sum_grows f (fin false m e) (inf false) F A B = refl
sum_grows f (fin false m e) (fin true n d) F A B = absurd B
sum_grows f (fin false m e) (fin false n d) F A B =
    round-at-least f (m * up e * down d + n * up d * down e) (down e * down d) m e (mul-pos (down_pos e) (down_pos d)) F (go (m * up e) (down e) (down d) (n * up d * down e))
  where
    go : (x p q y : ℕ) → x * (p * q) ≤ (x * q + y) * p
    go x p q y =
        let a : x * (p * q) ≡ x * q * p = ap (λ (z : ℕ). x * z) (mul_comm p q) ∙ sym (mul_assoc x q p) in
        let b : (x * q + y) * p ≡ x * q * p + y * p = add-mul (x * q) y p in
        omega arith

root_unsigned : (x : Float) → T (unsigned x) → T (unsigned (root_of x))
unfolding root_of
root_unsigned nan a = absurd a
root_unsigned (inf true) a = absurd a
root_unsigned (inf false) a = tt
root_unsigned (fin true m e) a = absurd a
root_unsigned (fin false zero e) a = tt
root_unsigned (fin false (suc m) e) a = round_unsigned binary64 _ _

root_of-number : (x : Float) → is_nan (root_of x) ≡ false → is_nan x ≡ false
unfolding root_of is_nan
root_of-number nan h = h
root_of-number (inf s) h = refl
root_of-number (fin s m e) h = refl

pub distance_unsigned : (p q : Vec2) → is_nan (distance_of p q) ≡ false → T (unsigned (distance_of p q))
unfolding distance_of square_of
distance_unsigned p q h = root_unsigned (square_of p q) (squares_unsigned binary64 _ _ (root_of-number (square_of p q) h))

-- ---- the walk after a node is improved

pub record Walks (l : Lattice) (before : List ℕ) (v : ℕ) : Type 0 where
  pub turns : ℕ
  pub ends : Ended l before v turns

walks_none : (l : Lattice) (before : List ℕ) (v : ℕ) → stop l before v ≡ true → Walks l before v
unfolding walk
walks_none l before v e = record { turns = 0; ends = record { stops = e; goes = λ i h. absurd (let z : ⊥ = omega arith in z) } }

walks_more : (l : Lattice) (before : List ℕ) (v : ℕ) → stop l before v ≡ false → Walks l before (get_or before v 0) → Walks l before v
unfolding walk
walks_more l before v e w = record { turns = suc w.turns; ends = record { stops = ap (stop l before) (sym (walk-next l before v w.turns)) ∙ w.ends.stops; goes = go } }
  where
    go : (i : ℕ) → i < suc w.turns → stop l before (walk l before v i) ≡ false
    go zero h = e
    go (suc i) h = ap (stop l before) (sym (walk-next l before v i)) ∙ w.ends.goes i (omega arith)

stop_none : (l : Lattice) (before : List ℕ) (v : ℕ) → v ≡ no_node → stop l before v ≡ true
stop_none l before v e = rw (eq-eqb v no_node e)

-- costs are numbers that are not below zero, none falls along a walk, and every walk ends
pub record Mounting (l : Lattice) (cost : List Float) (before : List ℕ) : Type 0 where
  pub costs_long : length cost ≡ nodes l
  pub before-long : length before ≡ nodes l
  pub fit : (k : ℕ) → k < nodes l → T (fits binary64 (get_or cost k nan))
  pub up : (k : ℕ) → k < nodes l → T (unsigned (get_or cost k nan))
  pub known : (k : ℕ) → k < nodes l → (get_or before k 0 ≡ no_node → ⊥) → get_or before k 0 < nodes l
  pub order : (k : ℕ) → k < nodes l → (get_or before k 0 ≡ no_node → ⊥) → le (get_or cost (get_or before k 0) nan) (get_or cost k nan) ≡ true
  pub walks : (k : ℕ) → k < nodes l → Walks l before k

module _ (l : Lattice) (cost : List Float) (before : List ℕ) (M : Mounting l cost before) (v t : ℕ) (A : v < nodes l) (B : t < nodes l)
    (d : Float) (D : is_nan d ≡ false → T (unsigned d)) (H : lt (add binary64 (get_or cost v nan) d) (get_or cost t nan) ≡ true) where
  abbrev cand : Float
  cand = add binary64 (get_or cost v nan) d

  abbrev cost' : List Float
  cost' = set cost t cand

  abbrev before' : List ℕ
  before' = set before t v

  d_up : T (unsigned d)
  d_up = D (sum-numbers binary64 (get_or cost v nan) d (lt_numbers cand (get_or cost t nan) H).0).1

  rises : le (get_or cost v nan) cand ≡ true
  rises = sum_grows binary64 (get_or cost v nan) d (M.fit v A) (M.up v A) d_up

  less : lt (get_or cost v nan) (get_or cost t nan) ≡ true
  less = le_lt (get_or cost v nan) cand (get_or cost t nan) rises H

  -- what costs less than t is not t
  not_t : (y : ℕ) → lt (get_or cost y nan) (get_or cost t nan) ≡ true → y ≡ t → ⊥
  not_t y h e = never (sym (lt_irrefl (get_or cost t nan)) ∙ ap (λ (k : ℕ). lt (get_or cost k nan) (get_or cost t nan)) (sym e) ∙ h)

  same : (y : ℕ) → (y ≡ t → ⊥) → get_or before' y 0 ≡ get_or before y 0
  same y h = get_or-set_other before t y v 0 h

  here : get_or before' t 0 ≡ v
  here = get_or-set_same before t v 0 (omega (arith, M.before-long))

  cost-same : (y : ℕ) → (y ≡ t → ⊥) → get_or cost' y nan ≡ get_or cost y nan
  cost-same y h = get_or-set_other cost t y cand nan h

  cost-here : get_or cost' t nan ≡ cand
  cost-here = get_or-set_same cost t cand nan (omega (arith, M.costs_long))

  -- a walk over nodes that cost less than t is as it was
  walks_less : (k y : ℕ) → Ended l before y k → y < nodes l → lt (get_or cost y nan) (get_or cost t nan) ≡ true → Walks l before' y
  unfolding walk
  walks_less zero y E h c = walks_none l before' y E.stops
  walks_less (suc k) y E h c =
      walks_more l before' y (E.goes 0 (omega arith))
      (subst (Walks l before') (sym (same y (not_t y c)))
      (which (get_or before y 0) no_node
      (λ e. walks_none l before' (get_or before y 0) (stop_none l before' (get_or before y 0) e))
      (λ e. walks_less k (get_or before y 0) (ended-next l before y k E) (M.known y h e) (le_lt (get_or cost (get_or before y 0) nan) (get_or cost y nan) (get_or cost t nan) (M.order y h e) c))))

  from_v : Walks l before' v
  from_v = let w = M.walks v A in walks_less w.turns v w.ends A less

  walks_on : (k y : ℕ) → Ended l before y k → Walks l before' y
  unfolding walk
  walks_on zero y E = walks_none l before' y E.stops
  walks_on (suc k) y E =
      walks_more l before' y (E.goes 0 (omega arith))
      (which y t
      (λ e. subst (Walks l before') (sym (ap (λ (x : ℕ). get_or before' x 0) e ∙ here)) from_v)
      (λ e. subst (Walks l before') (sym (same y e)) (walks_on k (get_or before y 0) (ended-next l before y k E))))

  mounts : Mounting l cost' before'
  mounts = record {
    costs_long = length-set cost t cand ∙ M.costs_long;
    before-long = length-set before t v ∙ M.before-long;
    fit = λ k h. which k t
        (λ e. subst (λ (x : Float). T (fits binary64 x)) (sym (ap (λ (y : ℕ). get_or cost' y nan) e ∙ cost-here)) (add-fits binary64 (get_or cost v nan) d))
        (λ e. subst (λ (x : Float). T (fits binary64 x)) (sym (cost-same k e)) (M.fit k h));
    up = λ k h. which k t
        (λ e. subst (λ (x : Float). T (unsigned x)) (sym (ap (λ (y : ℕ). get_or cost' y nan) e ∙ cost-here)) (sum_unsigned binary64 (get_or cost v nan) d (M.up v A) d_up))
        (λ e. subst (λ (x : Float). T (unsigned x)) (sym (cost-same k e)) (M.up k h));
    known = λ k h p. which k t
        (λ e. subst (λ (x : ℕ). x < nodes l) (sym (ap (λ (y : ℕ). get_or before' y 0) e ∙ here)) A)
        (λ e. subst (λ (x : ℕ). x < nodes l) (sym (same k e)) (M.known k h (λ q. p (same k e ∙ q))));
    order = λ k h p. which k t
        (λ e. subst (λ (x : ℕ). le (get_or cost' (get_or before' x 0) nan) (get_or cost' x nan) ≡ true) (sym e)
        (subst (λ (x : ℕ). le (get_or cost' x nan) (get_or cost' t nan) ≡ true) (sym here)
        (subst (λ (x : Float). le x (get_or cost' t nan) ≡ true) (sym (cost-same v (not_t v less))) (subst (λ (x : Float). le (get_or cost v nan) x ≡ true) (sym cost-here) rises))))
        (λ e. let b = M.order k h (λ q. p (same k e ∙ q)) in
        subst (λ (x : ℕ). le (get_or cost' x nan) (get_or cost' k nan) ≡ true) (sym (same k e))
        (subst (λ (x : Float). le (get_or cost' (get_or before k 0) nan) x ≡ true) (sym (cost-same k e))
        (which (get_or before k 0) t
        (λ q. subst (λ (x : Float). le x (get_or cost k nan) ≡ true) (sym (ap (λ (y : ℕ). get_or cost' y nan) q ∙ cost-here))
        (lt_to_le cand (get_or cost k nan) (lt_le cand (get_or cost t nan) (get_or cost k nan) H (subst (λ (x : ℕ). le (get_or cost x nan) (get_or cost k nan) ≡ true) q b))))
        (λ q. subst (λ (x : Float). le x (get_or cost k nan) ≡ true) (sym (cost-same (get_or before k 0) q)) b))));
    walks = λ k h. let w = M.walks k h in walks_on w.turns k w.ends;
  }

-- ---- all turns of the search

module _ (l : Lattice) (L : Laid l) where
  started_walks : (k : ℕ) → k < nodes l → Walks l (started l).before k
  unfolding started
  started_walks k h =
      by_cases (stop l (started l).before k)
      (λ e. walks_none l (started l).before k e)
      (λ e. walks_more l (started l).before k e (walks_none l (started l).before _ (stop_none l (started l).before _ (get_or-replicate (nodes l) k no_node 0 h))))

  zero_cost : T (fits binary64 f0) × (T (unsigned f0))
  unfolding of_bits fits
  zero_cost = (tt, tt)

  top-cost : T (fits binary64 top) × (T (unsigned top))
  unfolding of_bits fits
  top-cost = (tt, tt)

  start-cost : (P : Float → Type 0) → P f0 → P top → (k : ℕ) → k < nodes l → P (get_or (started l).cost k nan)
  unfolding started
  start-cost P a b k h =
      which k l.start.0
      (λ e. subst P (sym (ap (λ (y : ℕ). get_or (set (replicate (nodes l) top) l.start.0 f0) y nan) e ∙ get_or-set_same (replicate (nodes l) top) l.start.0 f0 nan (omega (arith, length-replicate (nodes l) top, L.first)))) a)
      (λ e. subst P (sym (get_or-set_other (replicate (nodes l) top) l.start.0 k f0 nan e ∙ get_or-replicate (nodes l) k top nan h)) b)

  mounts_started : Mounting l (started l).cost (started l).before
  unfolding started
  mounts_started = record {
    costs_long = length-set (replicate (nodes l) top) l.start.0 f0 ∙ length-replicate (nodes l) top;
    before-long = length-replicate (nodes l) no_node;
    fit = start-cost (λ (x : Float). T (fits binary64 x)) zero_cost.0 top-cost.0;
    up = start-cost (λ (x : Float). T (unsigned x)) zero_cost.1 top-cost.1;
    known = λ k h p. absurd (p (get_or-replicate (nodes l) k no_node 0 h));
    order = λ k h p. absurd (p (get_or-replicate (nodes l) k no_node 0 h));
    walks = started_walks;
  }

  module _ (allowed squares : List ℕ) where
    mounts_offer : (v t : NodeNo) (s : Search) → IsNode l v → IsNode l t → Mounting l s.cost s.before → Mounting l (offer_of l v t s).cost (offer_of l v t s).before
    unfolding offer_of candidate improved
    mounts_offer v t s A B M =
        by_test (λ (x : Search). Mounting l x.cost x.before) (lt (candidate l v t s.cost) (get_or s.cost t.0 nan)) _ s
        (λ h. mounts l s.cost s.before M v.0 t.0 A B (distance_of (centre_of l v) (centre_of l t)) (distance_unsigned (centre_of l v) (centre_of l t)) h)
        (λ _. M)

    mounts_at : (v : NodeNo) (d : ℕ) (s : Search) (b : Option NodeNo) → b ≡ beside_of l v d → IsNode l v → Mounting l s.cost s.before
        → Mounting l (visit_at l allowed squares v b s).cost (visit_at l allowed squares v b s).before
    unfolding visit_at
    mounts_at v d s None e A M = M
    mounts_at v d s (Some t) e A M =
        by_test (λ (x : Search). Mounting l x.cost x.before) (reachable l allowed squares t) (offer_of l v t s) s (λ _. mounts_offer v t s A (beside_node l v t d (Some t) e refl) M) (λ _. M)

    mounts_expand : (v : NodeNo) (s : Search) → IsNode l v → Mounting l s.cost s.before → Mounting l (expand_of l allowed squares v s).cost (expand_of l allowed squares v s).before
    unfolding expand_of visit_of
    mounts_expand v s A M =
        loop_keeps (visit_of l allowed squares v) 0 (λ (x : Search). Mounting l x.cost x.before) 8 (λ d t a b T. mounts_at v d t (beside_of l v d) refl A T) s M

    abbrev MountRun : Run Search Outcome → Type 0
    MountRun (on s) = Mounting l s.cost s.before
    MountRun (out o) = (k : ℕ) → k < nodes l → Walks l o.before k

    mounts_next : (i : ℕ) (s : Search) (q : List Entry) → count (beyond (nodes l)) q ≡ 0 → Mounting l s.cost s.before → MountRun (seek_next l allowed squares i s q)
    unfolding seek_next
    mounts_next i s [] c M = M.walks
    mounts_next i s (e ∷ r) c M =
        by_test MountRun (eqb e.node.0 l.goal.0) _ _ (λ _. M.walks)
        (λ _. by_test MountRun (ltb (nodes l) (i + 1)) _ _ (λ _. M.walks) (λ _. mounts_expand e.node (st s.cost s.before r) (node-first (nodes l) e r c) M))

    mounts_turn : (i : ℕ) (r : Run Search Outcome) → SoundRun l L allowed squares r → MountRun r → MountRun (turn (seek_step l allowed squares) i r)
    unfolding turn seek_step beyond
    mounts_turn i (on s) S M = mounts_next i s s.queue S.opens M
    mounts_turn i (out o) S M = M

    both_run : (k : ℕ) → let r = loop (turn (seek_step l allowed squares)) 0 k (on (started l)) in SoundRun l L allowed squares r × MountRun r
    both_run k =
        loop_keeps (turn (seek_step l allowed squares)) 0 (λ (r : Run Search Outcome). SoundRun l L allowed squares r × MountRun r) k
        (λ i r a b p. (sound_turn l L allowed squares i r p.0, mounts_turn i r p.0 p.1)) (on (started l)) (sound_started l L, mounts_started)

    -- from every node the walk back over what the search leaves ends
    pub seek_walks : (k : ℕ) → k < nodes l → Walks l (seek_of l allowed squares).before k
    unfolding seek_of ended
    seek_walks = go (loop (turn (seek_step l allowed squares)) 0 (nodes l + 1) (on (started l))) (both_run (nodes l + 1)).1
      where
        go : (r : Run Search Outcome) → MountRun r → (k : ℕ) → k < nodes l → Walks l (ended r).before k
        go (on s) M = M.walks
        go (out o) M = M

    -- so does the Rust's, from the node before the goal; and any counter that lets it end gives the definition's path
    pub goal_walks : let b = (seek_of l allowed squares).before in Walks l b (get_or b l.goal.0 0)
    goal_walks =
        let b = (seek_of l allowed squares).before in
        which (get_or b l.goal.0 0) no_node
        (λ e. walks_none l b (get_or b l.goal.0 0) (stop_none l b (get_or b l.goal.0 0) e))
        (λ e. seek_walks (get_or b l.goal.0 0) ((sound_seek l L allowed squares).known l.goal.0 L.last e))

    pub path-whole : let b = (seek_of l allowed squares).before in let v = get_or b l.goal.0 0 in (n : ℕ) (ps : List Vec2) → goal_walks.turns ≤ n → back_of l b n v ps ≡ back_of l b (nodes l - 1) v ps
    path-whole n ps h = path-all l L allowed squares goal_walks.turns n ps goal_walks.ends h
