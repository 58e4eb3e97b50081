-- The walk back from the goal needs no counter: where it ends at all, as the Rust's loop does that makes the path, it ends before the counter runs out, for it meets
-- no node twice. Assumes nothing.
use mathlib.Core.Path.{◌≡◌, refl, sym, ap, ◌∙◌}
use mathlib.Core.Bool.{Bool, true, false, ◌||◌}
use mathlib.Core.List.{List, ◌∷◌}
use Prim.Native.Nat.{ℕ, zero, suc, ◌+◌, ◌-◌, ◌≤◌, ◌<◌}
use native.Mathlib.Omega.{arith}
use lib.Dec.{eqb}
use lib.ListN.{get_or, set, replicate, get_or-replicate}
use lib.Seq.{get_or-set_other}
use borrow.Author.Tests.{eqb-false}
use Rattle.loops.specs.Cells.{ones}
use Rattle.loops.proofs.Cases.{never, neither}
use Rattle.loops.proofs.CellLaws.{ones-set}
use Rattle.geom.specs.declared.vec2.Vec2.{Vec2}
use Rattle.links.specs.declared.lattice.Lattice.{Lattice}
use Rattle.links.specs.Lattice.{nodes, centre_of, Laid}
use Rattle.links.specs.Search.{no_node, seek_of, Befores}
use Rattle.links.specs.Node.{node_no}
use Rattle.links.specs.Path.{back_of}
use Rattle.links.proofs.SeekLaws.{sound_seek}

ones-all : (n : ℕ) → ones (replicate n 1) ≡ n
unfolding ones
ones-all zero = refl
ones-all (suc n) = let z = ones-all n in omega (arith, z)

module _ (l : Lattice) (before : List ℕ) where
  -- the node that i steps lead to
  unfoldable pub walk : ℕ → ℕ → ℕ
  walk v zero = v
  walk v (suc i) = get_or before (walk v i) 0

  -- the Rust's loop ends there
  abbrev pub stop : ℕ → Bool
  stop v = eqb v no_node || eqb v l.start.0

  -- it makes k turns from v
  pub record Ended (v k : ℕ) : Type 0 where
    pub stops : stop (walk v k) ≡ true
    pub goes : (i : ℕ) → i < k → stop (walk v i) ≡ false

  walk_from_lem : (v i t : ℕ) → walk (walk v i) t ≡ walk v (i + t)
  unfolding walk
  walk_from_lem v i zero = ap (walk v) (let z : i ≡ i + 0 = omega arith in z)
  walk_from_lem v i (suc t) = ap (λ (x : ℕ). get_or before x 0) (walk_from_lem v i t) ∙ ap (walk v) (let z : suc (i + t) ≡ i + suc t = omega arith in z)

  pub walk-next : (v i : ℕ) → walk (get_or before v 0) i ≡ walk v (suc i)
  unfolding walk
  walk-next v zero = refl
  walk-next v (suc i) = ap (λ (x : ℕ). get_or before x 0) (walk-next v i)

  pub ended-next : (v k : ℕ) → Ended v (suc k) → Ended (get_or before v 0) k
  ended-next v k E = record {
    stops = ap stop (walk-next v k) ∙ E.stops;
    goes = λ i h. ap stop (walk-next v i) ∙ E.goes (suc i) (omega arith);
  }

  -- a larger counter changes nothing
  back-enough : (k n v : ℕ) (ps : List Vec2) → Ended v k → k ≤ n → back_of l before n v ps ≡ back_of l before k v ps
  unfolding back_of walk
  back-enough zero zero v ps E h = refl
  back-enough zero (suc n) v ps E h = rw E.stops
  back-enough (suc k) zero v ps E h = absurd (let z : ⊥ = omega arith in z)
  back-enough (suc k) (suc n) v ps E h = let e = E.goes 0 (omega arith) in rw e (back-enough k n (get_or before v 0) (centre_of l (node_no v) ∷ ps) (ended-next v k E) (omega arith))

  module _ (v k : ℕ) (E : Ended v k) where
    -- no node is met twice
    walk-once : (i j : ℕ) → i < j → j < k → walk v i ≡ walk v j → ⊥
    walk-once i j h b e =
        let t : walk v (i + (k - j)) ≡ walk v k = sym (walk_from_lem v i (k - j)) ∙ ap (λ (x : ℕ). walk x (k - j)) e ∙ walk_from_lem v j (k - j) ∙ ap (walk v) (let z : j + (k - j) ≡ k = omega arith in z) in
        never (sym (E.goes (i + (k - j)) (omega arith)) ∙ ap stop t ∙ E.stops)

    walk_goes : (i : ℕ) → i < k → (walk v i ≡ no_node → ⊥) × (walk v i ≡ l.start.0 → ⊥)
    walk_goes i h =
        let z = neither (eqb (walk v i) no_node) (eqb (walk v i) l.start.0) (E.goes i h) in
        (eqb-false (walk v i) no_node z.0, eqb-false (walk v i) l.start.0 z.1)

    module _ (L : Laid l) (K : Befores (nodes l) before) (known : (v ≡ no_node → ⊥) → v < nodes l) where
      walk-node : (i : ℕ) → i < k → walk v i < nodes l
      unfolding walk
      walk-node zero h = known (walk_goes 0 h).0
      walk-node (suc i) h = K.known (walk v i) (walk-node i (omega arith)) (walk_goes (suc i) h).0

      -- the nodes that are not met yet
      marks : ℕ → List ℕ
      marks zero = set (replicate (nodes l) 1) l.start.0 0
      marks (suc i) = set (marks i) (walk v i) 0

      mark_still : (i x : ℕ) → x < nodes l → (x ≡ l.start.0 → ⊥) → ((j : ℕ) → j < i → x ≡ walk v j → ⊥) → get_or (marks i) x 0 ≡ 1
      unfolding marks
      mark_still zero x h s d = get_or-set_other (replicate (nodes l) 1) l.start.0 x 0 0 s ∙ get_or-replicate (nodes l) x 1 0 h
      mark_still (suc i) x h s d = get_or-set_other (marks i) (walk v i) x 0 0 (d i (omega arith)) ∙ mark_still i x h s (λ j b. d j (omega arith))

      marks-count : (i : ℕ) → i ≤ k → ones (marks i) + i + 1 ≡ nodes l
      unfolding marks
      marks-count zero h =
          let z = ones-set (replicate (nodes l) 1) l.start.0 (get_or-replicate (nodes l) l.start.0 1 0 L.first) in
          omega (arith, z, ones-all (nodes l))
      marks-count (suc i) h =
          let b : i < k = omega arith in
          let s = (walk_goes i b).1 in
          let z = ones-set (marks i) (walk v i) (mark_still i (walk v i) (walk-node i b) s (λ j a e. walk-once j i a b (sym e))) in
          omega (arith, z, marks-count i (omega arith))

      pub walk-short : k + 1 ≤ nodes l
      walk-short = let z = marks-count k (omega arith) in omega (arith, z)

      -- so many turns as the counter allows, or any more, lay the same path
      pub back-all : (n : ℕ) (ps : List Vec2) → k ≤ n → back_of l before n v ps ≡ back_of l before (nodes l - 1) v ps
      back-all n ps h = back-enough k n v ps E h ∙ sym (back-enough k (nodes l - 1) v ps E (omega (arith, walk-short)))

-- the same of a search's path: where the Rust's walk back from the goal makes k turns, a counter of k or more, and the definition's, give its path
pub path-all : (l : Lattice) → Laid l → (allowed squares : List ℕ) → let b = (seek_of l allowed squares).before in let v = get_or b l.goal.0 0 in
    (k n : ℕ) (ps : List Vec2) → Ended l b v k → k ≤ n → back_of l b n v ps ≡ back_of l b (nodes l - 1) v ps
path-all l L allowed squares k n ps E h =
    let K = sound_seek l L allowed squares in
    back-all l (seek_of l allowed squares).before (get_or (seek_of l allowed squares).before l.goal.0 0) k E L K (K.known l.goal.0 L.last) n ps h
