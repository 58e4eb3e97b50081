-- The state of the search in slices: an entry more, an entry less, a node improved. Assumes nothing.
use mathlib.Core.Path.{◌≡◌, refl, sym, ap, ◌∙◌, subst}
use mathlib.Core.Bool.{true, false}
use mathlib.Core.List.{List, [], ◌∷◌}
use Prim.Native.Nat.{ℕ, zero, suc, ◌+◌, ◌-◌, ◌*◌, ◌≤◌, ◌<◌}
use native.Mathlib.Omega.{arith}
use lib.Dec.{T}
use lib.ListN.{length, get_or, set, take, drop, length-set}
use lib.Seq.{take-set-lt, drop-set-lt, get_or-take, get_or-drop}
use lib.Ieee.{Float, nan, binary64, fits, add, lt}
use borrow.Rule.Slice.PartMut.{put_mid}
use Rattle.loops.specs.Regions.{Fits, within}
use Rattle.loops.proofs.RegionLaws.{region-long, put-long}
use Rattle.loops.proofs.FrameLaws.{back_there, back-first}
use Rattle.geom.specs.Vec.{distance_of}
use Rattle.geom.specs.declared.vec2.Vec2.{Vec2}
use Rattle.links.specs.declared.NodeNo.{NodeNo}
use Rattle.links.specs.declared.heap.Entry.{Entry}
use Rattle.links.specs.declared.lattice.Lattice.{Lattice}
use Rattle.links.specs.Heap.{entry_at, listed, Ordered, Lent, Pushed, Popped}
use Rattle.links.specs.Lattice.{nodes, centre_of, IsNode, Laid}
use Rattle.links.specs.Search.{Search, st, entry, opened, reopened, improved, candidate, offer_of, search_in, Ready, Grown}
use Rattle.links.proofs.HoldLaws.{push_list, pop_list}
use Rattle.links.proofs.LatticeLaws.{nodes-most}

-- ---- floats of a part

abbrev pub Fit : List Float → Type 0
Fit w = (i : ℕ) → T (fits binary64 (get_or w i nan))

fit_take : (k : ℕ) (w : List Float) → Fit w → Fit (take k w)
unfolding fits
fit_take zero w f i = tt
fit_take (suc k) [] f i = tt
fit_take (suc k) (x ∷ w) f zero = f zero
fit_take (suc k) (x ∷ w) f (suc i) = fit_take k w (λ j. f (suc j)) i

pub fit_part : (a e : ℕ) (w : List Float) → Fit w → Fit (within a e w)
unfolding within
fit_part a e w f = fit_take (e - a) (drop a w) (λ i. subst (λ (x : Float). T (fits binary64 x)) (sym (get_or-drop a w i nan)) (f (a + i)))

-- ---- the state

pub st_eq : {c c' : List Float} {b b' : List ℕ} {q q' : List Entry} → c ≡ c' → b ≡ b' → q ≡ q' → st c b q ≡ st c' b' q'
st_eq {c} {c'} {b} {b'} {q} {q'} C B Q = rw (C, B, Q)

module _ (n m : ℕ) (words : List ℕ) (costs : List Float) (R : Ready n m words costs) where
  pub words_fit : Fits n (10 * n) words
  words_fit = record { start = omega arith; end = R.in_words }

  pub costs_fit : Fits n (10 * n) costs
  costs_fit = record { start = omega arith; end = R.in_costs }

  words_heap : length (within n (10 * n) words) ≡ 10 * n - n
  unfolding within
  words_heap = region-long n (10 * n) words words_fit

  costs_heap : length (within n (10 * n) costs) ≡ 10 * n - n
  unfolding within
  costs_heap = region-long n (10 * n) costs costs_fit

  -- the heap has room for k entries
  pub heap_lent : (k : ℕ) → k ≤ 9 * n → Lent (within n (10 * n) costs) (within n (10 * n) words) k
  heap_lent k h = record { in_ests = omega (arith, costs_heap); in_nodes = omega (arith, words_heap) }

  pub add_asks : m < 9 * n → Lent (within n (10 * n) costs) (within n (10 * n) words) (m + 1) × Ordered (entry_at (within n (10 * n) costs) (within n (10 * n) words)) m
  add_asks h = (heap_lent (m + 1) (omega arith), R.ordered)

  pub next_asks : 0 < m → (0 < m) × (Lent (within n (10 * n) costs) (within n (10 * n) words) m × Ordered (entry_at (within n (10 * n) costs) (within n (10 * n) words)) m)
  next_asks h = (h, (heap_lent m R.high, R.ordered))

  -- the heap's parts come back as rc and rw, of the same length
  module _ (rc : List Float) (rw : List ℕ) (C : length rc ≡ length (within n (10 * n) costs)) (W : length rw ≡ length (within n (10 * n) words)) where
    abbrev c' : List Float
    c' = put_mid n (10 * n - n) costs rc

    abbrev w' : List ℕ
    w' = put_mid n (10 * n - n) words rw

    heap_back : (k : ℕ) → listed (entry_at (within n (10 * n) c') (within n (10 * n) w')) k ≡ listed (entry_at rc rw) k
    unfolding within
    heap_back k = ap (λ (x : List Float). listed (entry_at x (within n (10 * n) w')) k) (back_there n (10 * n) costs costs_fit rc C) ∙ ap (λ (x : List ℕ). listed (entry_at rc x) k) (back_there n (10 * n) words words_fit rw W)

    grown : (k : ℕ) → k ≤ 9 * n → Ordered (entry_at rc rw) k → Grown n k words costs w' c'
    unfolding within
    grown k h o =
        let x = put-long n (10 * n) words words_fit rw W in
        let y = put-long n (10 * n) costs costs_fit rc C in
        record {
          words_long = x;
          costs_long = y;
          ready = record {
            in_words = omega (arith, x, R.in_words);
            in_costs = omega (arith, y, R.in_costs);
            high = h;
            ordered = subst (λ (l : List Float). Ordered (entry_at l (within n (10 * n) w')) k) (sym (back_there n (10 * n) costs costs_fit rc C))
                (subst (λ (l : List ℕ). Ordered (entry_at rc l) k) (sym (back_there n (10 * n) words words_fit rw W)) o);
          };
        }

    fit_back : Fit c' → Fit rc
    unfolding within
    fit_back f = subst Fit (back_there n (10 * n) costs costs_fit rc C) (fit_part n (10 * n) c' f)

  pub add_is : (e : Entry) (rc : List Float) (rw : List ℕ) → m < 9 * n → Pushed (within n (10 * n) costs) (within n (10 * n) words) m e rc rw → Fit (put_mid n (10 * n - n) costs rc)
      → (search_in n (m + 1) (put_mid n (10 * n - n) words rw) (put_mid n (10 * n - n) costs rc) ≡ opened e (search_in n m words costs))
      × Grown n (m + 1) words costs (put_mid n (10 * n - n) words rw) (put_mid n (10 * n - n) costs rc)
  unfolding search_in opened within
  add_is e rc rw h p f =
      let C = p.kept.ests_long in
      let W = p.kept.nodes-long in
      let l = push_list _ _ m e rc rw (heap_lent m R.high) R.ordered p (fit_back rc rw C W f) in (
        st_eq (back-first n (10 * n) costs costs_fit rc C) (back-first n (10 * n) words words_fit rw W) (heap_back rc rw C W (m + 1) ∙ l.0),
        grown rc rw C W (m + 1) (omega arith) l.1,
      )

  pub next-is : (e : Entry) (rc : List Float) (rw : List ℕ) → 0 < m → Popped (within n (10 * n) costs) (within n (10 * n) words) m e rc rw → Fit (put_mid n (10 * n - n) costs rc)
      → (search_in n m words costs ≡ reopened e (search_in n (m - 1) (put_mid n (10 * n - n) words rw) (put_mid n (10 * n - n) costs rc)))
      × Grown n (m - 1) words costs (put_mid n (10 * n - n) words rw) (put_mid n (10 * n - n) costs rc)
  unfolding search_in reopened within
  next-is e rc rw h p f =
      let C = p.kept.ests_long in
      let W = p.kept.nodes-long in
      let l = pop_list _ _ m e rc rw (heap_lent m R.high) R.ordered h p (fit_back rc rw C W f) in (
        st_eq (sym (back-first n (10 * n) costs costs_fit rc C)) (sym (back-first n (10 * n) words words_fit rw W)) (l.0 ∙ ap (λ (q : List Entry). e ∷ q) (sym (heap_back rc rw C W (m - 1)))),
        grown rc rw C W (m - 1) (omega (arith, R.high)) l.1,
      )

  -- ---- a node's cost and the node before it

  module _ (k x : ℕ) (y : Float) (K : k < n) where
    costs_rest : within n (10 * n) (set costs k y) ≡ within n (10 * n) costs
    unfolding within
    costs_rest = ap (take (10 * n - n)) (drop-set-lt n costs k y K)

    words-rest : within n (10 * n) (set words k x) ≡ within n (10 * n) words
    unfolding within
    words-rest = ap (take (10 * n - n)) (drop-set-lt n words k x K)

    pub set-ready : Ready n m (set words k x) (set costs k y)
    set-ready = record {
      in_words = omega (arith, length-set words k x, R.in_words);
      in_costs = omega (arith, length-set costs k y, R.in_costs);
      high = R.high;
      ordered = subst (λ (l : List Float). Ordered (entry_at l (within n (10 * n) (set words k x))) m) (sym costs_rest)
          (subst (λ (l : List ℕ). Ordered (entry_at (within n (10 * n) costs) l) m) (sym words-rest) R.ordered);
    }

    pub set_is : search_in n m (set words k x) (set costs k y) ≡ st (set (take n costs) k y) (set (take n words) k x) (search_in n m words costs).queue
    unfolding search_in
    set_is =
        st_eq (take-set-lt n costs k y K) (take-set-lt n words k x K)
        (ap (λ (l : List Float). listed (entry_at l (within n (10 * n) (set words k x))) m) costs_rest ∙ ap (λ (l : List ℕ). listed (entry_at (within n (10 * n) costs) l) m) words-rest)

  -- words' has the node before, at e's node
  module _ (v : NodeNo) (cand : Float) (e : Entry) (K : e.node.0 < n) (k : ℕ) (E : k ≡ e.node.0) (words' : List ℕ) (W : words' ≡ set words k v.0) where
    words-is : words' ≡ set words e.node.0 v.0
    words-is = W ∙ ap (λ (i : ℕ). set words i v.0) E

    costs_is : set costs k cand ≡ set costs e.node.0 cand
    costs_is = ap (λ (i : ℕ). set costs i cand) E

    pub improve_ready : Ready n m words' (set costs k cand)
    improve_ready = subst (λ (w : List ℕ). Ready n m w (set costs k cand)) (sym words-is) (subst (Ready n m (set words e.node.0 v.0)) (sym costs_is) (set-ready e.node.0 v.0 cand K))

    pub improve_is : (w' : List ℕ) (c' : List Float) → search_in n (m + 1) w' c' ≡ opened e (search_in n m words' (set costs k cand)) → Grown n (m + 1) words' (set costs k cand) w' c'
        → (search_in n (m + 1) w' c' ≡ improved v cand e (search_in n m words costs)) × Grown n (m + 1) words costs w' c'
    unfolding opened improved search_in
    improve_is w' c' d g = (
      d ∙ (λ i. opened e (search_in n m (words-is i) (costs_is i))) ∙ ap (opened e) (set_is e.node.0 v.0 cand K),
      record { words_long = g.words_long ∙ ap length W ∙ length-set words k v.0; costs_long = g.costs_long ∙ length-set costs k cand; ready = g.ready },
    )

pub grown-none : (n m : ℕ) (words : List ℕ) (costs : List Float) → Ready n m words costs → Grown n m words costs words costs
grown-none n m words costs R = record { words_long = refl; costs_long = refl; ready = R }

-- ---- a way offered

module _ (l : Lattice) (v t : NodeNo) (m : ℕ) (words : List ℕ) (costs : List Float) (A : IsNode l v) (B : IsNode l t)
    (p q : Vec2) (P : p ≡ centre_of l v) (Q : q ≡ centre_of l t) (d : Float) (D : d ≡ distance_of p q) (i j : ℕ) (I : i ≡ v.0) (J : j ≡ t.0) where
  cand_is : add binary64 (get_or costs i nan) d ≡ candidate l v t (search_in (nodes l) m words costs).cost
  unfolding candidate search_in
  cand_is = rw (I, D, P, Q, get_or-take (nodes l) costs v.0 nan A)

  cost-is : get_or costs j nan ≡ get_or (search_in (nodes l) m words costs).cost t.0 nan
  unfolding search_in
  cost-is = ap (λ (k : ℕ). get_or costs k nan) J ∙ sym (get_or-take (nodes l) costs t.0 nan B)

  pub offer_not : lt (add binary64 (get_or costs i nan) d) (get_or costs j nan) ≡ false → search_in (nodes l) m words costs ≡ offer_of l v t (search_in (nodes l) m words costs)
  unfolding offer_of
  offer_not e = rw (← cand_is, ← cost-is, e)

  pub offer_better : lt (add binary64 (get_or costs i nan) d) (get_or costs j nan) ≡ true → (f : Float) → f ≡ distance_of q l.end → (s : Search)
      → s ≡ improved v (add binary64 (get_or costs i nan) d) (entry (add binary64 (add binary64 (get_or costs i nan) d) f) t) (search_in (nodes l) m words costs)
      → s ≡ offer_of l v t (search_in (nodes l) m words costs)
  unfolding offer_of
  offer_better e f F s S = rw (← cand_is, ← cost-is, e, ← Q, ← F) S

  -- the node count by its name
  module _ (n : ℕ) (N : n ≡ nodes l) where
    pub offer_asks : Laid l → Ready (nodes l) m words costs → m < 9 * nodes l → Ready n m words costs × ((m < 9 * n) × ((n ≤ 1048576) × (t.0 < n)))
    offer_asks L R h = subst (λ (k : ℕ). Ready k m words costs × ((m < 9 * k) × ((k ≤ 1048576) × (t.0 < k)))) (sym N) (R, (h, (nodes-most l L, B)))

    pub offer_gives : lt (add binary64 (get_or costs i nan) d) (get_or costs j nan) ≡ true → (f : Float) → f ≡ distance_of q l.end → (w' : List ℕ) (c' : List Float)
        → search_in n (m + 1) w' c' ≡ improved v (add binary64 (get_or costs i nan) d) (entry (add binary64 (add binary64 (get_or costs i nan) d) f) t) (search_in n m words costs)
        → Grown n (m + 1) words costs w' c'
        → (search_in (nodes l) (m + 1) w' c' ≡ offer_of l v t (search_in (nodes l) m words costs)) × (Grown (nodes l) (m + 1) words costs w' c' × (m + 1 ≤ m + 1))
    offer_gives e f F w' c' S G =
        let x = add binary64 (get_or costs i nan) d in (
          offer_better e f F (search_in (nodes l) (m + 1) w' c') (subst (λ (k : ℕ). search_in k (m + 1) w' c' ≡ improved v x (entry (add binary64 x f) t) (search_in k m words costs)) N S),
          (subst (λ (k : ℕ). Grown k (m + 1) words costs w' c') N G, omega arith),
        )
