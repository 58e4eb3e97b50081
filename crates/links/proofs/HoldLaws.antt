-- What slices hold: every heap holds one list, `push` adds to it, `pop` takes its first, and it is empty where n is 0. Assumes nothing.
use mathlib.Core.Path.{◌≡◌, refl, sym, ap, ◌∙◌, subst}
use mathlib.Core.Bool.{Bool, true}
use mathlib.Core.List.{List, [], ◌∷◌}
use Prim.Native.Nat.{ℕ, zero, suc, ◌+◌, ◌-◌, ◌<◌}
use native.Mathlib.Omega.{arith}
use lib.Dec.{T}
use lib.ListN.{length, get_or, set}
use lib.Ieee.{Float, nan, binary64, fits}
use Rattle.links.specs.declared.heap.Entry.{Entry}
use Rattle.links.specs.Heap.{before_of, insert, one, count, count_to, Sorted, none, Ordered, entry_at, listed, Lent, Holds, Pushed, Popped}
use Rattle.links.specs.Sift.{Risen, Sunk}
use Rattle.links.proofs.OrderLaws.{one_entry}
use Rattle.links.proofs.OpenLaws.{unfit, fit_one, fit_not, count-insert, count-all, sorted_insert, sorted-one, sorted_rest, first-least, first-fails, to_none, to-fails, to-all}
use Rattle.links.proofs.SiftLaws.{stores, kept_more, rising-end, rising-all, sinking-end, sinking-all, root-least, written}

-- ---- the empty heap, and how many a heap holds

pub holds-length : {l : List Entry} {ests : List Float} {nodes : List ℕ} {n : ℕ} → Holds l ests nodes n → length l ≡ n
holds-length {l} {ests} {nodes} {n} h = sym (count-all l) ∙ sym (h.same (λ (e : Entry). true)) ∙ to-all (entry_at ests nodes) n

pub holds-none : (ests : List Float) (nodes : List ℕ) → Holds [] ests nodes 0
unfolding count count_to
holds-none ests nodes = record {
  sorted = none;
  lent = record { in_ests = omega arith; in_nodes = omega arith };
  ordered = record { order = λ i a l. absurd (let z : ⊥ = omega arith in z) };
  same = λ p. refl;
}

pub holds-empty : (l : List Entry) (ests : List Float) (nodes : List ℕ) (n : ℕ) → Holds l ests nodes n → n ≡ 0 → l ≡ []
holds-empty [] ests nodes n h z = refl
holds-empty (e ∷ l) ests nodes n h z = absurd (let d : ⊥ = omega (arith, holds-length h) in d)

pub holds-first : {A : Type 0} (l : List Entry) (ests : List Float) (nodes : List ℕ) (n : ℕ) → Holds l ests nodes n → 0 < n → ((e : Entry) (r : List Entry) → l ≡ e ∷ r → A) → A
holds-first [] ests nodes n h p f = absurd (let d : ⊥ = omega (arith, holds-length h) in d)
holds-first (e ∷ r) ests nodes n h p f = f e r refl

-- every heap holds a list
module _ (f : ℕ → Entry) where
  listed-sorted : (n : ℕ) → Sorted (listed f n)
  unfolding listed
  listed-sorted zero = none
  listed-sorted (suc n) = sorted_insert (f n) (listed f n) (listed-sorted n)

  listed_same : (p : Entry → Bool) (n : ℕ) → count_to p f n ≡ count p (listed f n)
  unfolding listed count count_to
  listed_same p zero = refl
  listed_same p (suc n) = omega (arith, count-insert p (f n) (listed f n), listed_same p n)

pub holds-some : (ests : List Float) (nodes : List ℕ) (n : ℕ) → Lent ests nodes n → Ordered (entry_at ests nodes) n → Holds (listed (entry_at ests nodes) n) ests nodes n
holds-some ests nodes n h o = record { sorted = listed-sorted (entry_at ests nodes) n; lent = h; ordered = o; same = λ p. listed_same (entry_at ests nodes) p n }

-- ---- one more, and one less

module _ (ests : List Float) (nodes : List ℕ) where
  pushed_in : (n : ℕ) (e : Entry) (ests' : List Float) (nodes' : List ℕ) (k : ℕ)
      → Lent ests nodes (n + 1) → Risen ests nodes n e ests' nodes' k → Pushed ests nodes n e (set ests' k e.est) (set nodes' k e.node.0)
  pushed_in n e ests' nodes' k i r =
      let h = r.rising.high in
      let ks = kept_more ests nodes ests' nodes' k e.est e.node.0 r.kept in
      let w = stores ests' nodes' k e (omega (arith, r.kept.ests_long, i.in_ests)) (omega (arith, r.kept.nodes-long, i.in_nodes)) in
      record {
        kept = ks;
        holds = λ l H. record {
          sorted = sorted_insert e l H.sorted;
          lent = record { in_ests = omega (arith, ks.ests_long, i.in_ests); in_nodes = omega (arith, ks.nodes-long, i.in_nodes) };
          ordered = rising-end (entry_at ests nodes) n e (entry_at ests' nodes') _ k r.rising r.stops w;
          same = λ p. omega (arith, rising-all (entry_at ests nodes) n e (entry_at ests' nodes') _ k r.rising w p, H.same p, count-insert p e l);
        };
      }

  pub pushed : (n : ℕ) (e : Entry) (ests' : List Float) (nodes' : List ℕ) (k : ℕ) → Lent ests nodes (n + 1) → Risen ests nodes n e ests' nodes' k
      → (ests'' : List Float) (nodes'' : List ℕ) → (ests'' ≡ set ests' k e.est) × (nodes'' ≡ set nodes' k e.node.0) → Pushed ests nodes n e ests'' nodes''
  pushed n e ests' nodes' k i r ests'' nodes'' w = written (Pushed ests nodes n e) ests' nodes' k e ests'' nodes'' w (pushed_in n e ests' nodes' k i r)

  -- where every estimate of the slice is an f64, so is every one of the list
  fit : ((i : ℕ) → T (fits binary64 (get_or ests i nan))) → (n : ℕ) (l : List Entry) → Holds l ests nodes n → count unfit l ≡ 0
  unfolding entry_at
  fit g n l H = sym (H.same unfit) ∙ to_none unfit (entry_at ests nodes) n (λ i a. fit_not (entry_at ests nodes i) (g i))

  -- slices hold one list
  pub holds-one : ((i : ℕ) → T (fits binary64 (get_or ests i nan))) → (n : ℕ) (l m : List Entry) → Holds l ests nodes n → Holds m ests nodes n → l ≡ m
  holds-one g n l m H K = sorted-one l m H.sorted K.sorted (λ p. sym (H.same p) ∙ K.same p) (fit g n l H)

  taken : (n : ℕ) → ((i : ℕ) → T (fits binary64 (get_or ests i nan))) → 0 < n → (e : Entry) (l : List Entry) → Holds (e ∷ l) ests nodes n → entry_at ests nodes 0 ≡ e
  unfolding entry_at
  taken n g h e l H =
      let f = entry_at ests nodes in
      one_entry (f 0) e (g 0) (fit_one e (first-fails unfit e l (fit g n (e ∷ l) H)))
      (to-fails (λ (a : Entry). before_of a e) f n 0 (H.same _ ∙ first-least e l H.sorted) h)
      (first-fails (λ (a : Entry). before_of a (f 0)) e l (sym (H.same _) ∙ to_none (λ (a : Entry). before_of a (f 0)) f n (λ i a. root-least f n H.ordered i i (omega arith) a)))

  popped_in_lem : (n : ℕ) (e : Entry) (ests' : List Float) (nodes' : List ℕ) (k : ℕ) → ((i : ℕ) → T (fits binary64 (get_or ests i nan)))
      → 0 < n → Lent ests nodes n → Sunk ests nodes (n - 1) e ests' nodes' k → Popped ests nodes n (entry_at ests nodes 0) (set ests' k e.est) (set nodes' k e.node.0)
  unfolding count
  popped_in_lem n e ests' nodes' k g h o r =
      let hk = r.sinking.high in
      let ks = kept_more ests nodes ests' nodes' k e.est e.node.0 r.kept in
      let w = stores ests' nodes' k e (omega (arith, r.kept.ests_long, o.in_ests)) (omega (arith, r.kept.nodes-long, o.in_nodes)) in
      record {
        kept = ks;
        taken = λ a l H. taken n g h a l H;
        holds = λ a l H. record {
          sorted = sorted_rest a l H.sorted;
          lent = record { in_ests = omega (arith, ks.ests_long, o.in_ests); in_nodes = omega (arith, ks.nodes-long, o.in_nodes) };
          ordered = sinking-end (entry_at ests nodes) (n - 1) e (entry_at ests' nodes') _ k r.sinking r.stops w;
          same = λ p.
              let z : n - 1 + 1 ≡ n = omega arith in
              omega (arith, sinking-all (entry_at ests nodes) (n - 1) e (entry_at ests' nodes') _ k r.sinking w p, ap (count_to p (entry_at ests nodes)) z, H.same p, ap (one p) (taken n g h a l H));
        };
      }

  pub popped : (n : ℕ) (e : Entry) (ests' : List Float) (nodes' : List ℕ) (k : ℕ) → ((i : ℕ) → T (fits binary64 (get_or ests i nan)))
      → 0 < n → Lent ests nodes n → Sunk ests nodes (n - 1) e ests' nodes' k → (ests'' : List Float) (nodes'' : List ℕ)
      → (ests'' ≡ set ests' k e.est) × (nodes'' ≡ set nodes' k e.node.0) → (a : Entry) → a ≡ entry_at ests nodes 0 → Popped ests nodes n a ests'' nodes''
  popped n e ests' nodes' k g h o r ests'' nodes'' w a A =
      subst (λ (x : Entry). Popped ests nodes n x ests'' nodes'') (sym A) (written (Popped ests nodes n (entry_at ests nodes 0)) ests' nodes' k e ests'' nodes'' w (popped_in_lem n e ests' nodes' k g h o r))

-- ---- the same of the list that a heap is

module _ (ests : List Float) (nodes : List ℕ) (n : ℕ) (e : Entry) (ests' : List Float) (nodes' : List ℕ) (h : Lent ests nodes n) (o : Ordered (entry_at ests nodes) n) where
  pub push_list : Pushed ests nodes n e ests' nodes' → ((i : ℕ) → T (fits binary64 (get_or ests' i nan)))
      → (listed (entry_at ests' nodes') (n + 1) ≡ insert e (listed (entry_at ests nodes) n)) × Ordered (entry_at ests' nodes') (n + 1)
  push_list p g =
      let H = p.holds _ (holds-some ests nodes n h o) in
      (holds-one ests' nodes' g (n + 1) _ _ (holds-some ests' nodes' (n + 1) H.lent H.ordered) H, H.ordered)

  pub pop_list : 0 < n → Popped ests nodes n e ests' nodes' → ((i : ℕ) → T (fits binary64 (get_or ests' i nan)))
      → (listed (entry_at ests nodes) n ≡ e ∷ listed (entry_at ests' nodes') (n - 1)) × Ordered (entry_at ests' nodes') (n - 1)
  pop_list z p g =
      let S = holds-some ests nodes n h o in
      holds-first (listed (entry_at ests nodes) n) ests nodes n S z
      (λ a r d. let K = subst (λ (l : List Entry). Holds l ests nodes n) d S in
      let H = p.holds a r K in
      let R = holds-one ests' nodes' g (n - 1) r _ H (holds-some ests' nodes' (n - 1) H.lent H.ordered) in
      (d ∙ ap (λ (x : Entry). x ∷ r) (sym (p.taken a r K)) ∙ ap (λ (l : List Entry). e ∷ l) R, H.ordered))
