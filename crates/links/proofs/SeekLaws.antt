-- The search from its beginning: every open node is one of the lattice's, and the turns of the code are those of the definition. Assumes nothing.
use mathlib.Core.Path.{◌≡◌, refl, sym, ap, ◌∙◌, subst}
use mathlib.Core.Bool.{Bool, true, false, ◌&&◌, ◌||◌, cond}
use mathlib.Core.List.{List, [], ◌∷◌, ◌++◌}
use Prim.Native.Nat.{ℕ, zero, suc, ◌+◌, ◌-◌, ◌*◌, ◌≤◌, ◌<◌}
use native.Mathlib.Omega.{arith}
use lib.Dec.{leb, ltb, eqb}
use lib.ListN.{length, get_or, set, take, drop, replicate, length-set, length-replicate, get_or-replicate}
use lib.Seq.{take_at, take-set-lt}
use lib.Ieee.{Float, nan, lt}
use borrow.Author.Tests.{lt-ltb, le-ltb, lt-leb, leb-false, eq-eqb, ne_eqb}
use borrow.Rule.Slice.PartMut.{put_mid}
use Rattle.loops.proofs.FillLaws.{filled-length}
use Rattle.loops.specs.Loop.{loop, Run, on, out, turn}
use Rattle.loops.proofs.Cases.{by_test}
use Rattle.loops.proofs.LoopLaws.{loop_keeps, loop_both, Going, going_none, going_on, going_out, going_end}
use Rattle.loops.specs.Regions.{Fits, within}
use Rattle.loops.proofs.RegionLaws.{region-long}
use Rattle.loops.specs.Frame.{Only}
use Rattle.loops.proofs.FrameLaws.{back_there, back-only, only_more, only_wider}
use Rattle.geom.specs.Vec.{f0, distance_of}
use Rattle.geom.specs.declared.vec2.Vec2.{Vec2}
use Rattle.links.specs.declared.NodeNo.{NodeNo}
use Rattle.links.specs.declared.heap.Entry.{Entry}
use Rattle.links.specs.declared.lattice.Lattice.{Lattice}
use Rattle.std.specs.Prelude.{Option, Some, None}
use Rattle.links.specs.declared.search.Turn.{Turn}
use Rattle.links.specs.declared.search.Turn.TheVariants.{On, Out}
use Rattle.links.specs.Heap.{insert, one, count, listed}
use Rattle.links.specs.Lattice.{nodes, cell_of_node, centre_of, node_free, beside_of, IsNode, Laid, Telling}
use Rattle.links.specs.Search.{Search, st, top, no_node, entry, started, opened, reopened, improved, candidate, offer_of, reachable, visit_at, visit_of, expand_of, Outcome, outcome, seek_next, seek_step, ended, seek_of, search_in, Ready, Grown, cells, squares_in, words_in, Searching, Visited, Befores, Sound, outcome_in, turn_in, Room, Turned}
use Rattle.links.specs.declared.search.Sought.{Sought}
use Rattle.links.proofs.LatticeLaws.{nodes-few, nodes-most, nodes_pos, beside_node}
use Rattle.links.proofs.OpenLaws.{one-fails, count-insert, first-fails}
use Rattle.links.proofs.VisitLaws.{squares-same, words-lent, words-put, words_part, visited_none, visited_more, words_back, visited_back}
use Rattle.links.proofs.SearchLaws.{st_eq}

-- ---- the beginning

module _ (l : Lattice) (L : Laid l) (words : List ℕ) (costs : List Float) (W : 10 * nodes l ≤ length words) (C : 10 * nodes l ≤ length costs)
    (n : ℕ) (N : n ≡ nodes l) (w : List ℕ) (c : List Float) (R : w ≡ replicate n no_node ++ drop n words) (S : c ≡ replicate n top ++ drop n costs) (i : ℕ) (I : i ≡ l.start.0) where
  w_long : length w ≡ length words
  w_long = ap length R ∙ filled-length no_node words n (omega (arith, N, W))

  c_long : length c ≡ length costs
  c_long = ap length S ∙ filled-length top costs n (omega (arith, N, C))

  pub start_in : i < length c
  start_in = omega (arith, I, c_long, C, L.first)

  pub begin_asks : Ready n 0 w (set c i f0) × ((0 < 9 * n) × (n ≤ 1048576))
  begin_asks = (
    record {
      in_words = omega (arith, w_long, N, W);
      in_costs = omega (arith, length-set c i f0, c_long, N, C);
      high = omega arith;
      ordered = record { order = λ i a b. absurd (let z : ⊥ = omega arith in z) };
    },
    (omega (arith, N, nodes_pos l L), omega (arith, N, nodes-most l L)),
  )

  pub begin-long : (w' : List ℕ) (c' : List Float) → Grown n 1 w (set c i f0) w' c' → length c' ≡ length costs
  begin-long w' c' G = G.costs_long ∙ length-set c i f0 ∙ c_long

  pub begin-is : (p : Vec2) → p ≡ centre_of l l.start → (d : Float) → d ≡ distance_of p l.end → (w' : List ℕ) (c' : List Float)
      → search_in n 1 w' c' ≡ opened (entry d l.start) (search_in n 0 w (set c i f0)) → Grown n 1 w (set c i f0) w' c'
      → (search_in (nodes l) 1 w' c' ≡ started l) × Grown (nodes l) 1 words costs w' c'
  unfolding search_in opened started listed
  begin-is p P d D w' c' e G = (
    subst (λ (k : ℕ). search_in k 1 w' c' ≡ started l) N
        (e ∙ st_eq (ap (λ (k : ℕ). take n (set c k f0)) I ∙ take-set-lt n c l.start.0 f0 (omega (arith, N, L.first)) ∙ ap (λ (x : List Float). set x l.start.0 f0) (ap (take n) S ∙ take_at (replicate n top) (drop n costs) n (length-replicate n top) ∙ ap (λ (k : ℕ). replicate k top) N))
        (ap (take n) R ∙ take_at (replicate n no_node) (drop n words) n (length-replicate n no_node) ∙ ap (λ (k : ℕ). replicate k no_node) N)
        (ap (λ (x : Float). insert (entry x l.start) []) (D ∙ ap (λ (q : Vec2). distance_of q l.end) P))),
    subst (λ (k : ℕ). Grown k 1 words costs w' c') N (record { words_long = G.words_long ∙ w_long; costs_long = begin-long w' c' G; ready = G.ready }),
  )

-- ---- every open node is one of the lattice's

unfoldable pub beyond : ℕ → Entry → Bool
beyond n e = leb n e.node.0

none-beyond : (n : ℕ) (e : Entry) → e.node.0 < n → one (beyond n) e ≡ 0
unfolding beyond
none-beyond n e h = one-fails (beyond n) e (lt-leb n e.node.0 h)

-- what is set is either the new value or as it was
set_keeps : (P : ℕ → Type 0) (l : List ℕ) (i a j d : ℕ) → P a → P (get_or l j d) → P (get_or (set l i a) j d)
set_keeps P [] i a j d p q = q
set_keeps P (x ∷ l) zero a zero d p q = p
set_keeps P (x ∷ l) zero a (suc j) d p q = q
set_keeps P (x ∷ l) (suc i) a zero d p q = q
set_keeps P (x ∷ l) (suc i) a (suc j) d p q = set_keeps P l i a j d p q

sound_improved : (n : ℕ) (v : NodeNo) (cand : Float) (e : Entry) (s : Search) → v.0 < n → e.node.0 < n → Sound n s → Sound n (improved v cand e s)
unfolding improved beyond
sound_improved n v cand e s A E S = record {
  opens = omega (arith, count-insert (beyond n) e s.queue, none-beyond n e E, S.opens);
  befores = record { known = λ k h. set_keeps (λ (x : ℕ). (x ≡ no_node → ⊥) → x < n) s.before e.node.0 v.0 k 0 (λ _. A) (S.befores.known k h) };
}

pub node-first : (n : ℕ) (e : Entry) (r : List Entry) → count (beyond n) (e ∷ r) ≡ 0 → e.node.0 < n
unfolding beyond
node-first n e r c = leb-false n e.node.0 (first-fails (beyond n) e r c)

opens-rest : (n : ℕ) (e : Entry) (r : List Entry) → count (beyond n) (e ∷ r) ≡ 0 → count (λ (a : Entry). leb n a.node.0) r ≡ 0
unfolding beyond count
opens-rest n e r c = omega arith

count_none : (p : Entry → Bool) → count p [] ≡ 0
unfolding count
count_none p = refl

module _ (l : Lattice) (L : Laid l) where
  pub sound_started : Sound (nodes l) (started l)
  unfolding started beyond
  sound_started =
      let e = entry (distance_of (centre_of l l.start) l.end) l.start in
      record {
        opens = omega (arith, count-insert (beyond (nodes l)) e [], none-beyond (nodes l) e L.first, count_none (beyond (nodes l)));
        befores = record { known = λ k h p. absurd (p (get_or-replicate (nodes l) k no_node 0 h)) };
      }

  module _ (allowed squares : List ℕ) where
    sound_offer : (v t : NodeNo) (s : Search) → IsNode l v → IsNode l t → Sound (nodes l) s → Sound (nodes l) (offer_of l v t s)
    unfolding offer_of
    sound_offer v t s A B S = by_test (Sound (nodes l)) (lt (candidate l v t s.cost) (get_or s.cost t.0 nan)) _ s (λ _. sound_improved (nodes l) v _ _ s A B S) (λ _. S)

    sound_at : (v : NodeNo) (d : ℕ) (s : Search) (b : Option NodeNo) → b ≡ beside_of l v d → IsNode l v → Sound (nodes l) s → Sound (nodes l) (visit_at l allowed squares v b s)
    unfolding visit_at
    sound_at v d s None e A S = S
    sound_at v d s (Some t) e A S = by_test (Sound (nodes l)) (reachable l allowed squares t) (offer_of l v t s) s (λ _. sound_offer v t s A (beside_node l v t d (Some t) e refl) S) (λ _. S)

    sound_expand : (v : NodeNo) (s : Search) → IsNode l v → Sound (nodes l) s → Sound (nodes l) (expand_of l allowed squares v s)
    unfolding expand_of visit_of
    sound_expand v s A S = loop_keeps (visit_of l allowed squares v) 0 (Sound (nodes l)) 8 (λ d t a b T. sound_at v d t (beside_of l v d) refl A T) s S

    abbrev pub SoundRun : Run Search Outcome → Type 0
    SoundRun (on s) = Sound (nodes l) s
    SoundRun (out o) = Befores (nodes l) o.before

    sound_next : (i : ℕ) (s : Search) (q : List Entry) → count (beyond (nodes l)) q ≡ 0 → Befores (nodes l) s.before → SoundRun (seek_next l allowed squares i s q)
    unfolding seek_next
    sound_next i s [] c b = b
    sound_next i s (e ∷ r) c b =
        by_test SoundRun (eqb e.node.0 l.goal.0) _ _ (λ _. b)
        (λ _. by_test SoundRun (ltb (nodes l) (i + 1)) _ _ (λ _. b)
        (λ _. sound_expand e.node (st s.cost s.before r) (node-first (nodes l) e r c) (record { opens = opens-rest (nodes l) e r c; befores = b })))

    pub sound_turn : (i : ℕ) (r : Run Search Outcome) → SoundRun r → SoundRun (turn (seek_step l allowed squares) i r)
    unfolding turn seek_step beyond
    sound_turn i (on s) S = sound_next i s s.queue S.opens S.befores
    sound_turn i (out o) S = S

    pub sound_run : (k : ℕ) → SoundRun (loop (turn (seek_step l allowed squares)) 0 k (on (started l)))
    sound_run k = loop_keeps (turn (seek_step l allowed squares)) 0 SoundRun k (λ i r a b S. sound_turn i r S) (on (started l)) sound_started

    -- the nodes before, once the search has ended
    pub sound_seek : Befores (nodes l) (seek_of l allowed squares).before
    unfolding seek_of ended
    sound_seek = go (loop (turn (seek_step l allowed squares)) 0 (nodes l + 1) (on (started l))) (sound_run (nodes l + 1))
      where
        go : (r : Run Search Outcome) → SoundRun r → Befores (nodes l) (ended r).before
        go (on s) S = S.befores
        go (out o) S = S

-- ---- one turn

module _ (l : Lattice) (allowed squares : List ℕ) (i : ℕ) where
  seek_none : (c : List Float) (b : List ℕ) → seek_step l allowed squares i (st c b []) ≡ out (outcome false i b)
  unfolding seek_step seek_next
  seek_none c b = refl

  module _ (e : Entry) (s : Search) where
    seek_goal : e.node.0 ≡ l.goal.0 → seek_step l allowed squares i (reopened e s) ≡ out (outcome true i s.before)
    unfolding seek_step seek_next reopened
    seek_goal h = rw (eq-eqb e.node.0 l.goal.0 h)

    seek_spent : (e.node.0 ≡ l.goal.0 → ⊥) → nodes l ≤ i → seek_step l allowed squares i (reopened e s) ≡ out (outcome false (i + 1) s.before)
    unfolding seek_step seek_next reopened
    seek_spent h k = rw (ne_eqb e.node.0 l.goal.0 h, lt-ltb (nodes l) (i + 1) (omega arith))

    seek_on : (e.node.0 ≡ l.goal.0 → ⊥) → i < nodes l → seek_step l allowed squares i (reopened e s) ≡ on (expand_of l allowed squares e.node s)
    unfolding seek_step seek_next reopened
    seek_on h k = rw (ne_eqb e.node.0 l.goal.0 h, le-ltb (nodes l) (i + 1) (omega arith))

module _ (l : Lattice) (allowed : List ℕ) (u : List ℕ) (costs : List Float) (m i : ℕ) (S : Searching l m u costs) where
  pub step-none : m ≡ 0 → (turn_in l (Out (record { found = false; expanded = i })) u costs ≡ seek_step l allowed (squares_in l u) i (search_in (nodes l) m (words_in l u) costs)) × Turned l i (Out (record { found = false; expanded = i })) u costs u costs
  unfolding search_in listed
  step-none z = (
    sym (seek_none l allowed (squares_in l u) i (take (nodes l) costs) (take (nodes l) (words_in l u))) ∙ ap (λ (k : ℕ). seek_step l allowed (squares_in l u) i (search_in (nodes l) k (words_in l u) costs)) (sym z),
    record { only = (visited_none l m u costs S).only; costs_long = refl; room = tt },
  )

  pub next_fits : Laid l → (n : ℕ) → n ≡ nodes l → (m ≡ 0 → ⊥) → (w : List ℕ) → w ≡ words_in l u → Ready n m w costs × ((0 < m) × (n ≤ 1048576))
  next_fits L n N z w W =
      subst (λ (k : ℕ). Ready k m w costs × ((0 < m) × (k ≤ 1048576))) (sym N) (subst (λ (x : List ℕ). Ready (nodes l) m x costs) (sym W) S.ready, (some m z, nodes-most l L))
    where
      some : (k : ℕ) → (k ≡ 0 → ⊥) → 0 < k
      some zero z = absurd (z refl)
      some (suc k) z = omega arith

  -- an entry e is taken
  module _ (k₀ : ℕ) (K₀ : k₀ ≡ cells l) (from : ℕ) (X₀ : from ≡ 5 * k₀) (to : ℕ) (Y₀ : to ≡ 15 * k₀) (n : ℕ) (N : n ≡ nodes l) (e : Entry) (r : List ℕ) (c' : List Float)
      (E₀ : search_in n m (take (to - from) (drop from u)) costs ≡ reopened e (search_in n (m - 1) r c')) (G : Grown n (m - 1) (take (to - from) (drop from u)) costs r c') where
    abbrev u' : List ℕ
    u' = put_mid from (to - from) u r

    put_is : u' ≡ put_mid (5 * cells l) (15 * cells l - 5 * cells l) u r
    put_is = words-put l k₀ K₀ from X₀ to Y₀ u r

    E : search_in n m (words_in l u) costs ≡ reopened e (search_in n (m - 1) r c')
    E = subst (λ (w : List ℕ). search_in n m w costs ≡ reopened e (search_in n (m - 1) r c')) (words-lent l k₀ K₀ from X₀ to Y₀ u) E₀

    g : Grown (nodes l) (m - 1) (words_in l u) costs r c'
    g = subst (λ (k : ℕ). Grown k (m - 1) (words_in l u) costs r c') N (subst (λ (w : List ℕ). Grown n (m - 1) w costs r c') (words-lent l k₀ K₀ from X₀ to Y₀ u) G)

    back : words_in l u' ≡ r
    back = ap (words_in l) put_is ∙ words_back l m u costs S (m - 1) r c' g

    took : search_in (nodes l) m (words_in l u) costs ≡ reopened e (search_in (nodes l) (m - 1) (words_in l u') c')
    took = subst (λ (k : ℕ). search_in k m (words_in l u) costs ≡ reopened e (search_in k (m - 1) r c')) N E ∙ ap (λ (w : List ℕ). reopened e (search_in (nodes l) (m - 1) w c')) (sym back)

    seen : Visited l (m - 1) u costs u' c'
    seen = subst (λ (x : List ℕ). Visited l (m - 1) u costs x c') (sym put_is) (visited_back l m u costs S (m - 1) r c' g)

    pub step_goal : e.node.0 ≡ l.goal.0
        → (turn_in l (Out (record { found = true; expanded = i })) u' c' ≡ seek_step l allowed (squares_in l u) i (search_in (nodes l) m (words_in l u) costs))
        × Turned l i (Out (record { found = true; expanded = i })) u costs u' c'
    unfolding search_in
    step_goal h = (
      sym (ap (seek_step l allowed (squares_in l u) i) took ∙ seek_goal l allowed (squares_in l u) i e _ h),
      record { only = seen.only; costs_long = seen.costs_long; room = tt },
    )

    pub step-spent : (e.node.0 ≡ l.goal.0 → ⊥) → n ≤ i
        → (turn_in l (Out (record { found = false; expanded = i + 1 })) u' c' ≡ seek_step l allowed (squares_in l u) i (search_in (nodes l) m (words_in l u) costs))
        × Turned l i (Out (record { found = false; expanded = i + 1 })) u costs u' c'
    unfolding search_in
    step-spent h k = (
      sym (ap (seek_step l allowed (squares_in l u) i) took ∙ seek_spent l allowed (squares_in l u) i e _ h (omega (arith, N))),
      record { only = seen.only; costs_long = seen.costs_long; room = tt },
    )

    module _ (D : Sound (nodes l) (search_in (nodes l) m (words_in l u) costs)) (M : m ≤ 8 * i + 1) (I : i < n) where
      taken : Sound (nodes l) (reopened e (search_in (nodes l) (m - 1) (words_in l u') c'))
      taken = subst (Sound (nodes l)) took D

      pub step-node : IsNode l e.node
      unfolding reopened beyond
      step-node = node-first (nodes l) e (search_in (nodes l) (m - 1) (words_in l u') c').queue taken.opens

      pub step_room : Searching l (m - 1) u' c' × (m - 1 + 8 ≤ 9 * nodes l)
      step_room = (seen.searching, omega (arith, M, I, N))

      pub step-on : (e.node.0 ≡ l.goal.0 → ⊥) → (k : ℕ) (u₂ : List ℕ) (c₂ : List Float)
          → search_in (nodes l) k (words_in l u₂) c₂ ≡ expand_of l allowed (squares_in l u') e.node (search_in (nodes l) (m - 1) (words_in l u') c')
          → Visited l k u' c' u₂ c₂ → k ≤ m - 1 + 8
          → (turn_in l (On k) u₂ c₂ ≡ seek_step l allowed (squares_in l u) i (search_in (nodes l) m (words_in l u) costs)) × Turned l i (On k) u costs u₂ c₂
      step-on h k u₂ c₂ X Y Z =
          let all = visited_more l m u costs S (m - 1) k u' c' u₂ c₂ seen Y in (
            sym (ap (seek_step l allowed (squares_in l u) i) took ∙ seek_on l allowed (squares_in l u) i e _ h (omega (arith, N, I))
                ∙ ap (λ (s : Search). on s) (ap (λ (q : List ℕ). expand_of l allowed q e.node (search_in (nodes l) (m - 1) (words_in l u') c')) (sym (squares-same l u u' S.long seen.only)) ∙ sym X)),
            record { only = all.only; costs_long = all.costs_long; room = (all.searching, omega (arith, M, Z)) },
          )

-- ---- all turns

-- i turns after the beginning, when u was u₀
pub record Seeking (l : Lattice) (allowed : List ℕ) (u₀ : List ℕ) (costs₀ : List Float) (u : List ℕ) (costs : List Float) (m i : ℕ) : Type 0 where
  pub going : Going (turn (seek_step l allowed (squares_in l u₀))) 0 (nodes l + 1) (on (search_in (nodes l) 1 (words_in l u₀) costs₀)) (on (search_in (nodes l) m (words_in l u) costs)) i
  pub only : Only (5 * cells l) (15 * cells l) u₀ u
  pub costs_long : length costs ≡ length costs₀
  pub searching : Searching l m u costs
  pub few : m ≤ 8 * i + 1

module _ (l : Lattice) (allowed : List ℕ) (u₀ : List ℕ) (costs₀ : List Float) (S : Searching l 1 u₀ costs₀) where
  pub seeking_none : Seeking l allowed u₀ costs₀ u₀ costs₀ 1 0
  seeking_none = record { going = going_none _ _ _ _; only = (visited_none l 1 u₀ costs₀ S).only; costs_long = refl; searching = S; few = omega arith }

  module _ (L : Laid l) (B : search_in (nodes l) 1 (words_in l u₀) costs₀ ≡ started l) (u : List ℕ) (costs : List Float) (m i : ℕ) (K : Seeking l allowed u₀ costs₀ u costs m i) where
    pub seeking_sound : Sound (nodes l) (search_in (nodes l) m (words_in l u) costs)
    seeking_sound =
        subst (SoundRun l L allowed (squares_in l u₀)) (ap (λ (s : Search). loop (turn (seek_step l allowed (squares_in l u₀))) 0 i (on s)) (sym B) ∙ sym K.going.is) (sound_run l L allowed (squares_in l u₀) i)

    -- the turn's step, by the squares as they were
    stepped : seek_step l allowed (squares_in l u) i (search_in (nodes l) m (words_in l u) costs) ≡ seek_step l allowed (squares_in l u₀) i (search_in (nodes l) m (words_in l u) costs)
    stepped = ap (λ (q : List ℕ). seek_step l allowed q i (search_in (nodes l) m (words_in l u) costs)) (squares-same l u₀ u S.long K.only)

    whole : Only (5 * cells l) (15 * cells l) u₀ u → (u' : List ℕ) → Only (5 * cells l) (15 * cells l) u u' → Only (5 * cells l) (15 * cells l) u₀ u'
    whole a u' b = only_more (5 * cells l) (15 * cells l) u₀ (words_part l 1 u₀ costs₀ S) u a u' b

    module _ (n : ℕ) (N : n ≡ nodes l) (h : i < n + 1) (t : Turn) (u' : List ℕ) (c' : List Float)
        (X : turn_in l t u' c' ≡ seek_step l allowed (squares_in l u) i (search_in (nodes l) m (words_in l u) costs)) (Y : Turned l i t u costs u' c') where
      pub seeking_more : (k : ℕ) → t ≡ On k → Seeking l allowed u₀ costs₀ u' c' k (i + 1)
      seeking_more k e =
          let r = subst (λ (a : Turn). Room l i a u' c') e Y.room in
          record {
            going = going_on _ _ _ _ _ _ i K.going (omega (arith, N)) (sym (ap (λ (a : Turn). turn_in l a u' c') e) ∙ X ∙ stepped);
            only = whole K.only u' Y.only;
            costs_long = Y.costs_long ∙ K.costs_long;
            searching = r.0;
            few = r.1;
          }

      pub seeking_out : (o : Sought) → t ≡ Out o
          → (outcome_in l o u' ≡ seek_of l allowed (squares_in l u₀)) × (Only (5 * cells l) (15 * cells l) u₀ u' × (length c' ≡ length costs₀))
      unfolding seek_of ended
      seeking_out o e = (
        sym (ap ended (ap (λ (s : Search). loop (turn (seek_step l allowed (squares_in l u₀))) 0 (nodes l + 1) (on s)) (sym B)
            ∙ going_out _ _ _ _ _ i (outcome_in l o u') K.going (omega (arith, N)) (sym (sym (ap (λ (a : Turn). turn_in l a u' c') e) ∙ X ∙ stepped)))),
        (whole K.only u' Y.only, Y.costs_long ∙ K.costs_long),
      )

    pub seeking_end : (n : ℕ) → n ≡ nodes l → n + 1 ≤ i
        → (outcome_in l (record { found = false; expanded = 0 }) u ≡ seek_of l allowed (squares_in l u₀)) × (Only (5 * cells l) (15 * cells l) u₀ u × (length costs ≡ length costs₀))
    unfolding seek_of ended search_in
    seeking_end n N h = (
      ap ended (going_end _ _ _ _ _ i K.going (omega (arith, N)) ∙ ap (λ (s : Search). loop (turn (seek_step l allowed (squares_in l u₀))) 0 (nodes l + 1) (on s)) B),
      (K.only, K.costs_long),
    )

-- ---- from the beginning

module _ (l : Lattice) (L : Laid l) (u : List ℕ) (costs : List Float) (A : 15 * cells l ≤ length u) (B : 10 * cells l ≤ length costs)
    (n : ℕ) (N : n ≡ cells l) (from : ℕ) (X₀ : from ≡ 5 * n) (to : ℕ) (Y₀ : to ≡ 15 * n) where
  part : Fits (5 * cells l) (15 * cells l) u
  part = record { start = omega arith; end = A }

  lent : Fits from to u
  lent = record { start = omega arith; end = omega arith }

  pub seek_asks : Laid l × ((10 * nodes l ≤ length (take (to - from) (drop from u))) × (10 * nodes l ≤ length costs))
  seek_asks = let z = region-long from to u lent in (L, (omega (arith, z, nodes-few l L), omega (arith, B, nodes-few l L)))

  module _ (r : List ℕ) (c' : List Float) (E : search_in (nodes l) 1 r c' ≡ started l) (G : Grown (nodes l) 1 (take (to - from) (drop from u)) costs r c') where
    abbrev u₁ : List ℕ
    u₁ = put_mid from (to - from) u r

    first : Only (5 * cells l) (15 * cells l) u u₁
    first = only_wider from to u u₁ lent (back-only from to u lent r G.words_long) (5 * cells l) (15 * cells l) (omega arith) (omega arith) A

    words_are : words_in l u₁ ≡ r
    unfolding within
    words_are = sym (words-lent l n N from X₀ to Y₀ u₁) ∙ back_there from to u lent r G.words_long

    pub run_asks : Searching l 1 u₁ c' × (search_in (nodes l) 1 (words_in l u₁) c' ≡ started l)
    run_asks = (
      record { long = omega (arith, first.long); ready = subst (λ (w : List ℕ). Ready (nodes l) 1 w c') (sym words_are) G.ready },
      ap (λ (w : List ℕ). search_in (nodes l) 1 w c') words_are ∙ E,
    )

    pub seek_is : (allowed : List ℕ) (o : Sought) (u₂ : List ℕ) (z : ℕ) → outcome_in l o u₂ ≡ seek_of l allowed (squares_in l u₁) → Only (5 * cells l) (15 * cells l) u₁ u₂ → z ≡ length c'
        → (outcome_in l o u₂ ≡ seek_of l allowed (squares_in l u)) × (Only (5 * cells l) (15 * cells l) u u₂ × (z ≡ length costs))
    seek_is allowed o u₂ z X Y Z =
        (X ∙ ap (seek_of l allowed) (squares-same l u u₁ A first), (only_more (5 * cells l) (15 * cells l) u part u₁ first u₂ Y, Z ∙ G.costs_long))

-- ---- by words that tell the nodes as the squares do

module _ (l : Lattice) (allowed squares words : List ℕ) (T : Telling l squares words) where
  visit_same : (v : NodeNo) (d : ℕ) (s : Search) (b : Option NodeNo) → b ≡ beside_of l v d → visit_at l allowed words v b s ≡ visit_at l allowed squares v b s
  unfolding visit_at reachable node_free
  visit_same v d s None e = refl
  visit_same v d s (Some t) e =
      ap (λ (b : Bool). cond (eqb t.0 l.goal.0 || (eqb (get_or allowed (cell_of_node l t).0 0) 1 && b)) (offer_of l v t s) s) (T.node t (beside_node l v t d (Some t) e refl))

  expand_same : (v : NodeNo) (s : Search) → expand_of l allowed words v s ≡ expand_of l allowed squares v s
  unfolding expand_of visit_of
  expand_same v s =
      loop_both (visit_of l allowed words v) (visit_of l allowed squares v) (λ _ (t u : Search). t ≡ u) 0 8 (omega arith)
      (λ d t u a b e. visit_same v d t (beside_of l v d) refl ∙ ap (visit_of l allowed squares v d) e) s s refl

  next-same : (i : ℕ) (s : Search) (q : List Entry) → seek_next l allowed words i s q ≡ seek_next l allowed squares i s q
  unfolding seek_next
  next-same i s [] = refl
  next-same i s (e ∷ r) = rw (expand_same e.node (st s.cost s.before r)) refl

  turn-same : (i : ℕ) (r : Run Search Outcome) → turn (seek_step l allowed words) i r ≡ turn (seek_step l allowed squares) i r
  unfolding turn seek_step
  turn-same i (on s) = next-same i s s.queue
  turn-same i (out o) = refl

  pub seek_same : seek_of l allowed words ≡ seek_of l allowed squares
  unfolding seek_of
  seek_same =
      ap ended (loop_both (turn (seek_step l allowed words)) (turn (seek_step l allowed squares)) (λ _ (r q : Run Search Outcome). r ≡ q) 0 (nodes l + 1) (omega arith)
      (λ i r q a b e. turn-same i r ∙ ap (turn (seek_step l allowed squares) i) e) (on (started l)) (on (started l)) refl)

-- ---- a filled part that comes back

pub front-filled : {A : Type 0} (v : A) (w : List A) (n : ℕ) → n ≤ length w → (r : List A) → r ≡ replicate (length (take (n - 0) (drop 0 w))) v → put_mid 0 (n - 0) w r ≡ replicate n v ++ drop n w
front-filled v w n h r R =
    ap (put_mid 0 (n - 0) w) (R ∙ ap (λ (k : ℕ). replicate k v) (region-long 0 n w (record { start = omega arith; end = h })))
    ∙ ap (λ (k : ℕ). replicate k v ++ drop k w) (let z : n - 0 ≡ n = omega arith in z)
