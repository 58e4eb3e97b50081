-- A node's neighbours visited: the state's part of the workspace is lent and comes back. Assumes nothing.
use mathlib.Core.Path.{◌≡◌, refl, sym, ap, ◌∙◌, subst}
use mathlib.Core.Bool.{Bool, true, false}
use mathlib.Core.List.{List}
use Prim.Native.Nat.{ℕ, ◌+◌, ◌-◌, ◌*◌, ◌≤◌, ◌<◌}
use native.Mathlib.Omega.{arith}
use lib.ListN.{length, take, drop}
use lib.Ieee.{Float}
use borrow.Author.Tests.{eq-eqb, ne_eqb}
use borrow.Rule.Slice.PartMut.{put_mid}
use Rattle.loops.specs.Regions.{Fits, within}
use Rattle.loops.proofs.LoopLaws.{Going, going_more}
use Rattle.loops.proofs.RegionLaws.{region-long}
use Rattle.loops.specs.Frame.{Only}
use Rattle.loops.proofs.FrameLaws.{back_there, back-only, only_same, only_more, only-before}
use Rattle.raster.specs.Grid.{Over}
use Rattle.links.specs.declared.NodeNo.{NodeNo}
use Rattle.links.specs.declared.lattice.Lattice.{Lattice}
use Rattle.std.specs.Prelude.{Option, Some, None}
use Rattle.links.specs.Lattice.{nodes, node_free, beside_of, Laid}
use Rattle.links.specs.Search.{Search, offer_of, reachable, visit_at, visit_of, search_in, Ready, Grown, cells, squares_in, words_in, Searching, Visited}

module _ (l : Lattice) (allowed squares : List ℕ) (t : NodeNo) where
  pub reach_goal : t.0 ≡ l.goal.0 → true ≡ reachable l allowed squares t
  unfolding reachable
  reach_goal e = rw (eq-eqb t.0 l.goal.0 e)

  pub reach-free : (t.0 ≡ l.goal.0 → ⊥) → (b : Bool) → b ≡ node_free l allowed squares t → b ≡ reachable l allowed squares t
  unfolding reachable
  reach-free e b B = rw (ne_eqb t.0 l.goal.0 e) B

-- ---- the parts of u

-- the squares are as they were
pub squares-same : (l : Lattice) (u u' : List ℕ) → 15 * cells l ≤ length u → Only (5 * cells l) (15 * cells l) u u' → squares_in l u' ≡ squares_in l u
squares-same l u u' h o = only-before (5 * cells l) (15 * cells l) u (record { start = omega arith; end = h }) u' o 0 (cells l) (omega arith) (omega arith)

-- the state's part, as it is lent and as it comes back
module _ (l : Lattice) (n : ℕ) (N : n ≡ cells l) (from : ℕ) (X : from ≡ 5 * n) (to : ℕ) (Y : to ≡ 15 * n) where
  from_is : from ≡ 5 * cells l
  from_is = omega arith

  to_is : to ≡ 15 * cells l
  to_is = omega arith

  pub words-lent : (u : List ℕ) → take (to - from) (drop from u) ≡ words_in l u
  unfolding within
  words-lent u = λ i. take (to_is i - from_is i) (drop (from_is i) u)

  pub squares-lent : (u : List ℕ) → take (n - 0) (drop 0 u) ≡ squares_in l u
  unfolding within
  squares-lent u = ap (λ (k : ℕ). take (k - 0) (drop 0 u)) N

  pub words-put : (u r : List ℕ) → put_mid from (to - from) u r ≡ put_mid (5 * cells l) (15 * cells l - 5 * cells l) u r
  words-put u r = λ i. put_mid (from_is i) (to_is i - from_is i) u r

module _ (l : Lattice) (m : ℕ) (u : List ℕ) (costs : List Float) (S : Searching l m u costs) where
  pub words_part : Fits (5 * cells l) (15 * cells l) u
  words_part = record { start = omega arith; end = S.long }

  pub squares-over : Laid l → Over l.grid (length (squares_in l u))
  unfolding within
  squares-over L =
      let z = region-long 0 (cells l) u (record { start = omega arith; end = omega (arith, S.long) }) in
      record { sides = L.sides; long = omega (arith, z) }

  pub visited_none : Visited l m u costs u costs
  visited_none = record { only = only_same (5 * cells l) (15 * cells l) u words_part; costs_long = refl; searching = S }

  pub visited_more : (k r : ℕ) (u₁ : List ℕ) (c₁ : List Float) (u₂ : List ℕ) (c₂ : List Float) → Visited l k u costs u₁ c₁ → Visited l r u₁ c₁ u₂ c₂ → Visited l r u costs u₂ c₂
  visited_more k r u₁ c₁ u₂ c₂ a b = record {
    only = only_more (5 * cells l) (15 * cells l) u words_part u₁ a.only u₂ b.only;
    costs_long = b.costs_long ∙ a.costs_long;
    searching = b.searching;
  }

  -- the state's part comes back as r
  module _ (k : ℕ) (r : List ℕ) (c' : List Float) (G : Grown (nodes l) k (words_in l u) costs r c') where
    abbrev u' : List ℕ
    u' = put_mid (5 * cells l) (15 * cells l - 5 * cells l) u r

    pub words_back : words_in l u' ≡ r
    unfolding within
    words_back = back_there (5 * cells l) (15 * cells l) u words_part r G.words_long

    pub visited_back : Visited l k u costs u' c'
    unfolding within
    visited_back =
        let o = back-only (5 * cells l) (15 * cells l) u words_part r G.words_long in
        record {
          only = o;
          costs_long = G.costs_long;
          searching = record { long = omega (arith, o.long, S.long); ready = subst (λ (w : List ℕ). Ready (nodes l) k w c') (sym words_back) G.ready };
        }

  -- ---- one neighbour

  module _ (allowed : List ℕ) (v : NodeNo) (d : ℕ) (b : Option NodeNo) (B : b ≡ beside_of l v d) where
    pub visit_off : b ≡ None
        → (search_in (nodes l) m (words_in l u) costs ≡ visit_of l allowed (squares_in l u) v d (search_in (nodes l) m (words_in l u) costs)) × (Visited l m u costs u costs × (m ≤ m + 1))
    unfolding visit_of visit_at
    visit_off e = (rw (← B, e), (visited_none, omega arith))

    module _ (t : NodeNo) (T : b ≡ Some t) (f : Bool) (F : f ≡ reachable l allowed (squares_in l u) t) where
      pub visit_not : f ≡ false
          → (search_in (nodes l) m (words_in l u) costs ≡ visit_of l allowed (squares_in l u) v d (search_in (nodes l) m (words_in l u) costs)) × (Visited l m u costs u costs × (m ≤ m + 1))
      unfolding visit_of visit_at
      visit_not e = (rw (← B, T, ← F, e), (visited_none, omega arith))

      visit_on : f ≡ true → (k : ℕ) (r : List ℕ) (c' : List Float)
          → search_in (nodes l) k r c' ≡ offer_of l v t (search_in (nodes l) m (words_in l u) costs) → (G : Grown (nodes l) k (words_in l u) costs r c') → k ≤ m + 1
          → (search_in (nodes l) k (words_in l (put_mid (5 * cells l) (15 * cells l - 5 * cells l) u r)) c' ≡ visit_of l allowed (squares_in l u) v d (search_in (nodes l) m (words_in l u) costs))
          × (Visited l k u costs (put_mid (5 * cells l) (15 * cells l - 5 * cells l) u r) c' × (k ≤ m + 1))
      unfolding visit_of visit_at
      visit_on e k r c' O G h =
          (rw (← B, T, ← F, e) (ap (λ (w : List ℕ). search_in (nodes l) k w c') (words_back k r c' G) ∙ O), (visited_back k r c' G, h))

      pub visit_yes : (n : ℕ) → n ≡ cells l → (from : ℕ) → from ≡ 5 * n → (to : ℕ) → to ≡ 15 * n → f ≡ true → (k : ℕ) (r : List ℕ) (c' : List Float)
          → search_in (nodes l) k r c' ≡ offer_of l v t (search_in (nodes l) m (take (to - from) (drop from u)) costs) → Grown (nodes l) k (take (to - from) (drop from u)) costs r c' → k ≤ m + 1
          → (search_in (nodes l) k (words_in l (put_mid from (to - from) u r)) c' ≡ visit_of l allowed (squares_in l u) v d (search_in (nodes l) m (words_in l u) costs))
          × (Visited l k u costs (put_mid from (to - from) u r) c' × (k ≤ m + 1))
      visit_yes n N from X to Y e k r c' O G h =
          let lent = words-lent l n N from X to Y u in
          subst (λ (x : List ℕ). (search_in (nodes l) k (words_in l x) c' ≡ visit_of l allowed (squares_in l u) v d (search_in (nodes l) m (words_in l u) costs)) × (Visited l k u costs x c' × (k ≤ m + 1)))
          (sym (words-put l n N from X to Y u r))
          (visit_on e k r c' (O ∙ ap (λ (w : List ℕ). offer_of l v t (search_in (nodes l) m w costs)) lent) (subst (λ (w : List ℕ). Grown (nodes l) k w costs r c') lent G) h)

-- ---- all neighbours

pub expand_more : (l : Lattice) (allowed : List ℕ) (v : NodeNo) (u₀ : List ℕ) (s t t' : Search) (d : ℕ) (u : List ℕ) → 15 * cells l ≤ length u₀ → Only (5 * cells l) (15 * cells l) u₀ u
    → Going (visit_of l allowed (squares_in l u₀) v) 0 8 s t d → d < 8 → t' ≡ visit_of l allowed (squares_in l u) v d t → Going (visit_of l allowed (squares_in l u₀) v) 0 8 s t' (d + 1)
expand_more l allowed v u₀ s t t' d u h o g b e =
    going_more (visit_of l allowed (squares_in l u₀) v) 0 8 s t t' d g b (e ∙ ap (λ (q : List ℕ). visit_of l allowed q v d t) (squares-same l u₀ u h o))
